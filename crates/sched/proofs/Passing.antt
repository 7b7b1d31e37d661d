-- Windows and places through a tick, one after the other: what is written at a place is what the rules say of it.
use Rattle.std.proofs.Common.{◌≡◌, ℕ, suc, ◌+◌, Bool, true, false, cond, eqb, List, refl, ap, ◌∙◌, arith}
use mathlib.Core.Bool.{false≢true}
use Rattle.windows.specs.Life as life
use Rattle.windows.specs.declared.Window as code-window
use Rattle.sched.specs.declared.tasks.Slot.{Slot}
use Rattle.sched.specs.declared.tasks.Slot.TheVariants as slot
use Rattle.sched.specs.House.{House, Place, Nobody, Window, Shut, Open, put, is_reserved, period_of, open_with, open_kept, windowed, passed, freed, ticked}
use Rattle.sched.specs.Stores.{Reads, place_of, window_of, reserved_place, shut}
use Rattle.sched.proofs.Lives.{read, window-read, begin-told, kept-told}
use Rattle.sched.proofs.Upto.{upto, upto_from, upto-more}

-- THE TICK BEGINS
module _ (w r : code-window.Window) (p : Place) (v : Bool) (x : Window) where
  pub begin-reserved : (b : Bool) (q d : ℕ) → p ≡ reserved_place q d → b ≡ v → window_of w ≡ x → life.life r ≡ life.open_with b d (life.life w) → window_of r ≡ cond (is_reserved p) (open_with v (period_of p) x) (open_kept x)
  unfolding is_reserved period_of
  begin-reserved b q d e f g told = rw (e, ← f, ← g) (begin-told w r b d told)

  pub begin-other : is_reserved p ≡ false → window_of w ≡ x → life.life r ≡ life.open_kept (life.life w) → window_of r ≡ cond (is_reserved p) (open_with v (period_of p) x) (open_kept x)
  begin-other e g told = rw (e, ← g) (kept-told w r told)

-- past the places nothing opens
pub begin-past : (h : House) (k : ℕ) → h.place k ≡ Nobody → h.window k ≡ Shut → (windowed h).window k ≡ h.window k
unfolding is_reserved open_kept
begin-past h k p w = rw (p, w) refl

-- THE TICK PASSES
open-freed : (e g : ℕ) (b : Bool) (p : Place) → freed (Open e g b) p ≡ p
unfolding freed
open-freed e g b p = refl

-- an open window keeps its place
pub open-keeps : (w : code-window.Window) (p : Place) → life.is_open (life.life w) ≡ true → freed (window_of w) p ≡ p
open-keeps w p e = ap (λ x. freed x p) (window-read w) ∙ keeps (life.life w) e
  where
    keeps : (l : life.Life) → life.is_open l ≡ true → freed (read l) p ≡ p
    keeps life.Shut e = absurd (false≢true e)
    keeps (life.Open x g b) e = open-freed x g b p

module _ (h : House) (r n i : ℕ) (mine : Bool) (e : i ≡ n) (is : mine ≡ eqb r (suc i)) where
  still-window : passed mine (upto n (ticked h r).window h.window i) ≡ (ticked h r).window i
  still-window = rw (is, upto_from (ticked h r).window h.window n i (omega arith)) refl

  pub pass-windows : (xs : List code-window.Window) → Reads window_of shut xs (put i (passed mine (upto n (ticked h r).window h.window i)) (upto n (ticked h r).window h.window)) →
      Reads window_of shut xs (upto (n + 1) (ticked h r).window h.window)
  pass-windows xs = upto-more (ticked h r).window h.window window_of shut xs n i (passed mine (upto n (ticked h r).window h.window i)) e still-window

  pub pass-places : (xs : List Slot) → Reads place_of slot.Free xs (put i (freed (passed mine (upto n (ticked h r).window h.window i)) (upto n (ticked h r).place h.place i)) (upto n (ticked h r).place h.place)) →
      Reads place_of slot.Free xs (upto (n + 1) (ticked h r).place h.place)
  pass-places xs =
      upto-more (ticked h r).place h.place place_of slot.Free xs n i (freed (passed mine (upto n (ticked h r).window h.window i)) (upto n (ticked h r).place h.place i)) e
      (rw (still-window, upto_from (ticked h r).place h.place n i (omega arith)) refl)

-- past the places nothing passes
pub pass-windows-past : (h : House) (r k : ℕ) → h.window k ≡ Shut → (ticked h r).window k ≡ h.window k
unfolding passed
pass-windows-past h r k w = rw w refl

pub pass-places-past : (h : House) (r k : ℕ) → h.place k ≡ Nobody → h.window k ≡ Shut → (ticked h r).place k ≡ h.place k
unfolding passed freed
pass-places-past h r k p w = rw (p, w) refl
