-- What is left decides.
use Rattle.std.proofs.Common.{◌≡◌}
use Rattle.rehearsal.specs.Cuts.{cut, left}
use Rattle.rehearsal.specs.Expected.{first_apart}
use Rattle.rehearsal.proofs.expectation.first_difference.Given as goal

abbrev pub invariant-loop-want : goal.invariant-loop-want
invariant-loop-want l =
    (goal.iterator-loop-want).can_next l.want-iterator
    × (goal.iterator-loop-want).is_finite l.want-iterator
    × (first_apart l.number (left l.want-iterator) (left l.lines) ≡ first_apart 1 (cut 10 l.expected) (cut 10 l.transcript))
