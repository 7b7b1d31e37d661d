-- What is left decides.
use Rattle.std.proofs.Common.{◌≡◌}
use Rattle.rehearsal.specs.Cuts.{cut, left}
use Rattle.rehearsal.specs.Expected.{words_meet}
use Rattle.rehearsal.proofs.expectation.meets.Given as goal

abbrev pub invariant-loop-word : goal.invariant-loop-word
invariant-loop-word l =
    (goal.iterator-loop-word).can_next l.word-iterator
    × (goal.iterator-loop-word).is_finite l.word-iterator
    × (words_meet (left l.word-iterator) (left l.words) ≡ words_meet (cut 32 l.want) (cut 32 l.line))
