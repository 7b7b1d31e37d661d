-- One more entry at the end, which the rules allow, keeps the log legal.
use Rattle.sched.specs.House.{empty}
use Rattle.memory.proofs.Runs.{legal-push}
use Rattle.memory.proofs.recorder.Recorder.record.Goals as goal

pub invariant_of-self : goal.invariant_of-self
invariant_of-self c =
    record { lawful = rw c.push.ensures.items (legal-push empty c.args.self.now.log.items c.args.entry c.args.self.now.lawful c.requires.1) }
