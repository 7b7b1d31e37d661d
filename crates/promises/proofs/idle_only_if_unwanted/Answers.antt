-- The theorem stands in Idle.
use Rattle.promises.proofs.Idle.{idle-only-if-unwanted}
use Rattle.promises.proofs.idle_only_if_unwanted.Goals as goal

pub returns : goal.returns
returns c = idle-only-if-unwanted
