-- The theorems stand in model/Shares and model/Rings.
use Rattle.sched.proofs.model.Rings.{rows-stand}
use Rattle.sched.proofs.model.Shares.{shares-fit}
use Rattle.sched.proofs.shares_fit.Goals as goal

pub returns : goal.returns
returns c = (shares-fit, rows-stand)
