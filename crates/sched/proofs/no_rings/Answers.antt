-- The theorem stands in model/Rings.
use Rattle.sched.proofs.model.Rings.{no-rings}
use Rattle.sched.proofs.no_rings.Goals as goal

pub returns : goal.returns
returns c = no-rings
