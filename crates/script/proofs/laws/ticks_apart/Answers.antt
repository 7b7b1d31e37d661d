-- The theorem stands in Apart.
use Rattle.script.proofs.Apart.{ticks-apart}
use Rattle.script.proofs.laws.ticks_apart.Goals as goal

pub returns : goal.returns
returns c = ticks-apart
