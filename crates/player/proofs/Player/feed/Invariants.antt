-- So many bytes have come.
use Rattle.std.proofs.Common.{ℕ, List, ◌++◌, take}
use Rattle.player.specs.Standing.{Playing}
use Rattle.player.proofs.Player.feed.Given as goal

abbrev pub invariant-loop-byte : goal.invariant-loop-byte
invariant-loop-byte g l =
    (before script : List ℕ) → Playing g.S.Sink.took l.initial.self l.initial.out before script → Playing g.S.Sink.took l.self l.out before (script ++ take l.byte-index l.bytes)
