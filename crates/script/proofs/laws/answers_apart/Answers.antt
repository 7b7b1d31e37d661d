-- The theorem stands in Apart.
use Rattle.script.proofs.Apart.{answers-apart}
use Rattle.script.proofs.laws.answers_apart.Goals as goal

pub returns : goal.returns
returns c = answers-apart
