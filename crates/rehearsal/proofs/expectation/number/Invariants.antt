-- The word has taken so many of the bytes.
use Rattle.std.proofs.Common.{take}
use Rattle.script.specs.Taken.{WordTaken}
use Rattle.rehearsal.proofs.expectation.number.Given as goal

abbrev pub invariant-loop-byte : goal.invariant-loop-byte
invariant-loop-byte l = WordTaken l.word (take l.byte-index l.text)
