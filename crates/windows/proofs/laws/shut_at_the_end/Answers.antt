-- The law as proved in Lasting.antt.
use Rattle.windows.proofs.Lasting.{shut-at-the-end}
use Rattle.windows.proofs.laws.shut_at_the_end.Goals as goal

pub returns : goal.returns
returns c = shut-at-the-end
