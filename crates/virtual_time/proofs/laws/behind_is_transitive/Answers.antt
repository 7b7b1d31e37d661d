-- The law as proved in Order.antt.
use Rattle.virtual_time.proofs.Order.{behind-is-transitive}
use Rattle.virtual_time.proofs.laws.behind_is_transitive.Goals as goal

pub returns : goal.returns
returns c = behind-is-transitive
