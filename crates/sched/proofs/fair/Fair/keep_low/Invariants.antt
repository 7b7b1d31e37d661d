-- Positions below the index are taken down.
use Rattle.std.proofs.Common.{ℕ}
use Rattle.sched.specs.House.{Place}
use Rattle.sched.specs.Stores.{AllStand}
use Rattle.sched.proofs.positions.Lowering.{Lowers}
use Rattle.sched.proofs.fair.Fair.keep_low.Given as goal

abbrev pub invariant-loop-position : goal.invariant-loop-position
invariant-loop-position l =
    (base : ℕ) (place : ℕ → Place) (far rest : ℕ → ℕ) → AllStand base l.initial.position-items place far rest → Lowers base l.by l.position-index l.position-items place far rest
