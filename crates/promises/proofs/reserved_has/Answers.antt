use Rattle.promises.proofs.Reserved.{reserved-has}
use Rattle.promises.proofs.reserved_has.Goals as goal

pub returns : goal.returns
returns c = reserved-has
