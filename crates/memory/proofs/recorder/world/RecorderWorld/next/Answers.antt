-- To look at what comes next changes nothing; a step is handed out only where there is room.
use Rattle.std.proofs.Common.{length, refl}
use Rattle.memory.specs.Recorded.{script_of, entries_of}
use Rattle.memory.proofs.Written.{asks-room}
use Rattle.memory.proofs.recorder.world.RecorderWorld.next.Goals as goal

pub returns : goal.returns
returns c = (refl, asks-room (script_of c.args.self.now) 1024 (length (entries_of c.args.self.now)) c.asks.result c.asks.ensures)
