use Rattle.promises.proofs.Turn.{in-turn}
use Rattle.promises.proofs.in_turn.Goals as goal

pub returns : goal.returns
returns c = in-turn
