-- Which window can stand at a place, and that no other ever does.
-- Assumes nothing.
use Rattle.std.specs.Prelude.{◌≡◌, ℕ, suc, ◌<◌, ◌≤◌, Bool, false, T, Option}
use Rattle.sched.specs.declared.Kind.{Kind}
use Rattle.sched.specs.declared.Kind.TheVariants.{Reserved}
use Rattle.sched.specs.House.{House, Place, Nobody, A, Kept, Window, Shut, Open, good, is_reserved, quota_of, got_of, opened, may_run, number_of}
use Rattle.sched.specs.Promise.{Comes}

-- in how many ticks a window ends: 0 if there is none
unfoldable pub ends_of : Window → ℕ
ends_of Shut = 0
ends_of (Open e g b) = e

unfoldable pub is_whole : Window → Bool
is_whole Shut = false
is_whole (Open e g b) = b

-- A window is open only for a reservation or a kept share, ends within its period, and no more was had of it than the quota.
-- A share is kept only as long as its window is open, and every task's kind is a good one.
pub data Formed : Place → Window → Type 0 where
  vacant : Formed Nobody Shut
  closed : (k : Kind) → T (good k) → Formed (A k) Shut
  running : (q p e g : ℕ) (b : Bool) → T (good (Reserved q p)) → 0 < e → e ≤ p → g ≤ q → Formed (A (Reserved q p)) (Open e g b)
  lingering : (q p e g : ℕ) (b : Bool) → T (good (Reserved q p)) → 0 < e → e ≤ p → g ≤ q → Formed (Kept q p) (Open e g b)

pub record WindowsWellFormed : Type 0 where
  pub formed : (h : House) → Comes h → (i : ℕ) → Formed (h.place i) (h.window i)
  -- a tick is a reserved task's only while it has had less than its quota: so it never has more, the last tick of a window included
  pub within : (h : House) (t : Option ℕ) (j i : ℕ) → T (may_run h t j) → number_of t ≡ suc i → T (is_reserved (h.place i)) → got_of ((opened h).window i) < quota_of (h.place i)
