-- Nothing is recorded yet.
use Rattle.memory.specs.Run.{legal}
use Rattle.memory.proofs.recorder.Recorder.new.Goals as goal

pub invariant_of-result : goal.invariant_of-result
unfolding legal
invariant_of-result c = record { lawful = rw c.new.ensures tt }
