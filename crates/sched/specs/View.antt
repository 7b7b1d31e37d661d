-- What is seen of a place: each part is the house's own.
-- Assumes nothing.
use Rattle.std.specs.Prelude.{◌≡◌, ℕ}
use Rattle.sched.specs.declared.view.Occupant.{Occupant}
use Rattle.sched.specs.declared.view.Occupant.TheVariants as seen
use Rattle.sched.specs.declared.view.View as code_view
use Rattle.sched.specs.House.{House, Place, Nobody, A, Kept}
use Rattle.sched.specs.Stores.{awaited_of, window_of}
use Rattle.sched.specs.Midtick.{asking}

unfoldable pub occupies : Occupant → Place
occupies seen.Nobody = Nobody
occupies (seen.Task k) = A k
occupies (seen.Kept q p) = Kept q p

-- v is what place i looks like in the house h
pub record Sees (h : House) (i : ℕ) (v : code_view.View) : Type 0 where
  pub place : occupies v.occupant ≡ h.place i
  pub awake : v.awake ≡ h.awake i
  pub waits : awaited_of v.waits ≡ h.waits i
  pub asks : v.wants ≡ asking h i
  pub window : window_of v.window ≡ h.window i
