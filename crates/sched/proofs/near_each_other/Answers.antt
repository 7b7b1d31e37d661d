use Rattle.sched.proofs.model.Fairness.{near-each-other}
use Rattle.sched.proofs.near_each_other.Goals as goal

pub returns : goal.returns
returns c = near-each-other
