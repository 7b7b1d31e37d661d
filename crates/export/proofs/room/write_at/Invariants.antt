-- So many of the bytes stand after those before the place, and behind them nothing has changed.
use Rattle.std.proofs.Common.{◌≡◌, ◌+◌, ◌++◌, take, drop}
use Rattle.export.proofs.room.write_at.Given as goal

abbrev pub invariant-loop-k : goal.invariant-loop-k
invariant-loop-k l = (take (l.at + l.k) l.room ≡ take l.at l.initial.room ++ take l.k l.bytes) × (drop (l.at + l.k) l.room ≡ drop (l.at + l.k) l.initial.room)
