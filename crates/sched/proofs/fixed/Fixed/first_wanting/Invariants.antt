-- Whoever stands before `at` doesn't want the tick.
use Rattle.std.proofs.Common.{ℕ, List}
use Rattle.queues.specs.Rings as queue
use Rattle.queues.specs.Outcomes.{First}
use Rattle.sched.specs.House.{House}
use Rattle.sched.specs.Midtick.{WantsOf, asking}
use Rattle.sched.proofs.Walks.{Walked}
use Rattle.sched.proofs.fixed.Fixed.first_wanting.Given as goal

abbrev pub invariant-loop-step : goal.invariant-loop-step
invariant-loop-step l =
    (f : ℕ → List ℕ) (h : House) (q : ℕ) → queue.Holds l.self.turn f → WantsOf l.wants h → First (f q) l.initial.at → Walked (f q) (asking h) l.step l.at
