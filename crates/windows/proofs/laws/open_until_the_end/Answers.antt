-- The law as proved in Lasting.antt.
use Rattle.windows.proofs.Lasting.{open-until-the-end}
use Rattle.windows.proofs.laws.open_until_the_end.Goals as goal

pub returns : goal.returns
returns c = open-until-the-end
