-- Recorded is a tick that may be, and the log comes to the house after it.
use Rattle.std.proofs.Common.{◌∙◌}
use Rattle.memory.specs.declared.entry.Entry.TheVariants.{Ran}
use Rattle.memory.specs.Recorded.{house_of}
use Rattle.memory.proofs.Runs.{ran-entered}
use Rattle.memory.proofs.Written.{written-house, written-room}
use Rattle.memory.proofs.lent.world.LentRecorderWorld.runs.Goals as goal

pub returns : goal.returns
returns g c = (
  written-house g.E.AsEntry.entry c.args.self.now c.record.new.self (Ran c.args.whose c.args.runs) c.record.ensures c.requires.0 ∙ ran-entered (house_of g.E.AsEntry.entry c.args.self.now) c.args.whose c.args.runs,
  written-room g.E.AsEntry.entry c.args.self.now c.record.new.self (Ran c.args.whose c.args.runs) c.record.ensures c.requires.0,
)
