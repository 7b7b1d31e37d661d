use Rattle.promises.proofs.Nearest.{nearest-each-other}
use Rattle.promises.proofs.nearest_each_other.Goals as goal

pub returns : goal.returns
returns c = nearest-each-other
