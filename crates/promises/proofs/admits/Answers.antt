-- The theorem stands in Admission.
use Rattle.promises.proofs.Admission.{admits}
use Rattle.promises.proofs.admits.Goals as goal

pub returns : goal.returns
returns c = admits
