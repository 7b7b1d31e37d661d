-- What was read so far was handed on.
use Rattle.std.proofs.Common.{◌≡◌, ℕ, List, length}
use Rattle.std.specs.Io.KnownBytes.{Consumes}
use Rattle.std.specs.List.{concat}
use Rattle.console.specs.Pieces.{HandedOn}
use Rattle.console.proofs.input.each_piece.Given as goal

abbrev pub invariant-loop-k : goal.invariant-loop-k
invariant-loop-k g l =
    goal.F-IsAlwaysCallable g l.take
    × (length l.buffer ≡ 65536)
    × ((pieces : List (List ℕ)) × Consumes (g.R.Read.remaining l.initial.input) (g.R.Read.remaining l.input) (concat pieces) × HandedOn g.F.FnMut l.initial.take pieces l.take)
