-- The theorem stands in Lending.
use Rattle.promises.proofs.Lending.{lends}
use Rattle.promises.proofs.lends.Goals as goal

pub returns : goal.returns
returns c = lends
