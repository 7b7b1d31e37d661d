-- The law as proved in Lasting.antt.
use Rattle.windows.proofs.Lasting.{never-whole-again}
use Rattle.windows.proofs.laws.never_whole_again.Goals as goal

pub returns : goal.returns
returns c = never-whole-again
