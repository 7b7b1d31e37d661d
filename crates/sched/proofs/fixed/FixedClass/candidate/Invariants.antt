-- Nobody wants of the ranks passed.
use Rattle.std.proofs.Common.{◌≡◌, ℕ, ◌<◌}
use Rattle.sched.specs.House.{House, in_turn, rank_wants}
use Rattle.sched.specs.Stores.{TurnOf}
use Rattle.sched.specs.Midtick.{WantsOf}
use Rattle.sched.proofs.fixed.FixedClass.candidate.Given as goal

abbrev pub invariant-loop-rank : goal.invariant-loop-rank
invariant-loop-rank l =
    (h : House) → WantsOf l.wants h → TurnOf l.self h.place h.turn → (r : ℕ) → r < l.rank-iterator.next → in_turn (rank_wants h r) h.turn ≡ 0
