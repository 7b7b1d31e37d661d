-- What was recorded is legal by its type.
use Rattle.sched.specs.House.{empty}
use Rattle.memory.proofs.Runs.{legal-run}
use Rattle.memory.proofs.recorder.Recorder.entries.Goals as goal

pub returns-clause-runs : goal.returns-clause-runs
returns-clause-runs c = rw c.as_slice.ensures.value (legal-run empty c.args.self.now.log.items c.args.self.now.lawful)
