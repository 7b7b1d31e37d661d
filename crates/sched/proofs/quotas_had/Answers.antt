use Rattle.sched.proofs.model.Quotas.{quotas-had}
use Rattle.sched.proofs.quotas_had.Goals as goal

pub returns : goal.returns
returns c = quotas-had
