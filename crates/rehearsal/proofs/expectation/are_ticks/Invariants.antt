-- What is left decides.
use Rattle.std.proofs.Common.{◌≡◌, ◌-◌}
use Rattle.rehearsal.specs.Cuts.{left}
use Rattle.rehearsal.specs.Expected.{after_ticks}
use Rattle.rehearsal.proofs.expectation.are_ticks.Given as goal

abbrev pub invariant-loop-k : goal.invariant-loop-k
invariant-loop-k l = after_ticks (l.many - l._k) (left l.lines) ≡ after_ticks l.many (left l.initial.lines)
