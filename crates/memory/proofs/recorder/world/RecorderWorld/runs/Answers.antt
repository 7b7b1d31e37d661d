-- Recorded is a tick that may be, and the log comes to the house after it.
use Rattle.std.proofs.Common.{length, ap, ◌∙◌, arith, length-append}
use Rattle.sched.specs.House.{empty}
use Rattle.memory.specs.declared.entry.Entry.{Entry}
use Rattle.memory.specs.declared.entry.Entry.TheVariants.{Ran}
use Rattle.memory.specs.Run.{outcome}
use Rattle.memory.specs.Recorded.{entries_of}
use Rattle.memory.proofs.Runs.{ran-allowed, ran-entered, outcome-push}
use Rattle.memory.proofs.recorder.world.RecorderWorld.runs.Goals as goal

pub record-requires : goal.record-requires
record-requires c = (omega arith, ran-allowed (outcome empty (entries_of c.args.self.now)) c.args.whose c.args.runs c.requires.1)

pub returns : goal.returns
returns c = (
  ap (outcome empty) c.record.ensures ∙ outcome-push empty (entries_of c.args.self.now) (Ran c.args.whose c.args.runs)
      ∙ ran-entered (outcome empty (entries_of c.args.self.now)) c.args.whose c.args.runs,
  let e = ap length c.record.ensures in omega (arith, length-append {A = Entry}, e),
)
