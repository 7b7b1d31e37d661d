-- The law as proved in Order.antt.
use Rattle.virtual_time.proofs.Order.{not-behind-is-transitive}
use Rattle.virtual_time.proofs.laws.not_behind_is_transitive.Goals as goal

pub returns : goal.returns
returns c = not-behind-is-transitive
