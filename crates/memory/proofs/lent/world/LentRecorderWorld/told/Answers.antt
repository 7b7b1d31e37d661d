-- Recorded is the answer that the rules give, and the log comes to the house after it.
use Rattle.std.proofs.Common.{◌∙◌}
use Rattle.memory.specs.declared.entry.Entry.TheVariants.{Called}
use Rattle.memory.specs.Recorded.{house_of}
use Rattle.memory.proofs.Runs.{told-entered}
use Rattle.memory.proofs.Written.{written-house, written-room}
use Rattle.memory.proofs.lent.world.LentRecorderWorld.told.Goals as goal

pub returns : goal.returns
returns g c = (
  written-house g.E.AsEntry.entry c.args.self.now c.record.new.self (Called c.args.c c.args.a) c.record.ensures c.requires.0 ∙ told-entered (house_of g.E.AsEntry.entry c.args.self.now) c.args.c c.args.a,
  written-room g.E.AsEntry.entry c.args.self.now c.record.new.self (Called c.args.c c.args.a) c.record.ensures c.requires.0,
)
