-- To look at what comes next changes nothing; a step is handed out only where there is room.
use Rattle.std.proofs.Common.{map, length, ap}
use Rattle.memory.specs.Recorded.{house_of}
use Rattle.memory.proofs.Written.{asks-room}
use Rattle.memory.proofs.lent.world.LentRecorderWorld.next.Goals as goal

pub returns : goal.returns
returns g c =
    let w = c.args.self.now in (
      ap (house_of g.E.AsEntry.entry) c.next.ensures.same,
      λ t. rw c.next.ensures.same (asks-room (map g.S.AsStep.step w.script.now) (length w.log.now) w.used c.next.result c.next.ensures.asks t),
    )
