use Rattle.promises.proofs.Quarter.{quarter-left}
use Rattle.promises.proofs.quarter_left.Goals as goal

pub returns : goal.returns
returns c = quarter-left
