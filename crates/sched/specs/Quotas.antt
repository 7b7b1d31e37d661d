-- Why quotas are had, as an invariant of places and windows alone: whole windows are claims, and they are covered.
-- Assumes nothing.
use Rattle.std.specs.Prelude.{ℕ, ◌-◌, true, false}
use Rattle.sched.specs.House.{Place, Window, Shut, Open, share_of, quota_of}
use Rattle.sched.specs.Windows.{Formed, ends_of}
use Rattle.sched.specs.Demand.{Covered}

-- what a window is still owed: the rest of its quota, as long as it is whole
unfoldable pub owed_of : Place → Window → ℕ
owed_of p Shut = 0
owed_of p (Open e g true) = quota_of p - g
owed_of p (Open e g false) = 0

pub record Quotas (place : ℕ → Place) (window : ℕ → Window) : Type 0 where
  pub formed : (i : ℕ) → Formed (place i) (window i)
  pub covered : Covered 64 (λ i. share_of (place i)) (λ i. ends_of (window i)) (λ i. owed_of (place i) (window i))
