use Rattle.sched.proofs.model.Fairness.{nearer-each-other}
use Rattle.promises.proofs.nearer_each_other.Goals as goal

pub returns : goal.returns
returns c = nearer-each-other
