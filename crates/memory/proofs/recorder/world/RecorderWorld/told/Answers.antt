-- Recorded is the answer that the rules give, and the log comes to the house after it.
use Rattle.std.proofs.Common.{length, ap, ◌∙◌, arith, length-append}
use Rattle.sched.specs.House.{empty}
use Rattle.memory.specs.declared.entry.Entry.{Entry}
use Rattle.memory.specs.declared.entry.Entry.TheVariants.{Called}
use Rattle.memory.specs.Run.{outcome}
use Rattle.memory.specs.Recorded.{entries_of}
use Rattle.memory.proofs.Runs.{told-allowed, told-entered, outcome-push}
use Rattle.memory.proofs.recorder.world.RecorderWorld.told.Goals as goal

pub record-requires : goal.record-requires
record-requires c = (omega arith, told-allowed (outcome empty (entries_of c.args.self.now)) c.args.c c.args.a c.requires.1)

pub returns : goal.returns
returns c = (
  ap (outcome empty) c.record.ensures ∙ outcome-push empty (entries_of c.args.self.now) (Called c.args.c c.args.a)
      ∙ told-entered (outcome empty (entries_of c.args.self.now)) c.args.c c.args.a,
  let e = ap length c.record.ensures in omega (arith, length-append {A = Entry}, e),
)
