use Rattle.sched.proofs.model.Windows.{windows-well-formed}
use Rattle.sched.proofs.windows_well_formed.Goals as goal

pub returns : goal.returns
returns c = windows-well-formed
