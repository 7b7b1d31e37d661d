-- What the crate of windows says of one, in the words of the rules.
use Rattle.std.proofs.Common.{◌≡◌, ℕ, zero, suc, Bool, true, false, cond, Some, None, Option, MatchOption, sym, refl, ap, ◌∙◌, true≢false}
use mathlib.Core.Bool.{false≢true}
use Rattle.windows.specs.Life as life
use Rattle.quantities.specs.declared.promises.Reservation.{Reservation}
use Rattle.windows.specs.declared.span.Span.{Span}
use Rattle.windows.specs.declared.Window as code-window
use Rattle.sched.specs.declared.tasks.Slot.{Slot}
use Rattle.sched.specs.declared.tasks.Slot.TheVariants as slot
use Rattle.sched.specs.House.{Place, Nobody, Kept, Window, Shut, Open, open_with, open_kept, passed, got_of, leaves, is_reserved, quota_of, period_of}
use Rattle.sched.specs.Stores.{span_of, window_of, place_of, reserved_place}

-- a window by its numbers, as the rules have it
abbrev pub read : life.Life → Window
read life.Shut = Shut
read (life.Open e g b) = Open e g b

span-read : (s : Option Span) → span_of s ≡ read (life.life_of s)
span-read None = refl
span-read (Some s) = refl

pub window-read : (w : code-window.Window) → window_of w ≡ read (life.life w)
unfolding window_of
window-read w = span-read w.span

read-begin : (b : Bool) (p : ℕ) (l : life.Life) → read (life.open_with b p l) ≡ open_with b p (read l)
unfolding open_with
read-begin true p life.Shut = refl
read-begin false p life.Shut = refl
read-begin b p (life.Open e g c) = refl

read_kept : (l : life.Life) → read (life.open_kept l) ≡ open_kept (read l)
unfolding open_kept
read_kept life.Shut = refl
read_kept (life.Open e g b) = refl

read-passed : (m : Bool) (l : life.Life) → read (life.passed m l) ≡ passed m (read l)
unfolding passed
read-passed m life.Shut = refl
read-passed m (life.Open zero g b) = refl
read-passed m (life.Open (suc zero) g b) = refl
read-passed m (life.Open (suc (suc e)) g b) = refl

read-got : (l : life.Life) → life.got_of l ≡ got_of (read l)
unfolding got_of
read-got life.Shut = refl
read-got (life.Open e g b) = refl

leaves-span : (e g : ℕ) (b : Bool) (p : Place) → leaves (Open e g b) p ≡ cond (is_reserved p) (Kept (quota_of p) (period_of p)) Nobody
unfolding leaves
leaves-span e g b p = refl

-- what becomes of a window is what the rules say
module _ (w r : code-window.Window) where
  pub begin-told : (b : Bool) (p : ℕ) → life.life r ≡ life.open_with b p (life.life w) → window_of r ≡ open_with b p (window_of w)
  begin-told b p e = window-read r ∙ ap read e ∙ read-begin b p (life.life w) ∙ ap (open_with b p) (sym (window-read w))

  pub kept-told : life.life r ≡ life.open_kept (life.life w) → window_of r ≡ open_kept (window_of w)
  kept-told e = window-read r ∙ ap read e ∙ read_kept (life.life w) ∙ ap open_kept (sym (window-read w))

  pub pass-told : (m : Bool) → life.life r ≡ life.passed m (life.life w) → window_of r ≡ passed m (window_of w)
  pass-told m e = window-read r ∙ ap read e ∙ read-passed m (life.life w) ∙ ap (passed m) (sym (window-read w))

module _ (w : code-window.Window) where
  pub got-told : life.got_of (life.life w) ≡ got_of (window_of w)
  got-told = read-got (life.life w) ∙ ap got_of (sym (window-read w))

  pub shut-told : life.is_open (life.life w) ≡ false → window_of w ≡ Shut
  shut-told e = window-read w ∙ shut (life.life w) e
    where
      shut : (l : life.Life) → life.is_open l ≡ false → read l ≡ Shut
      shut life.Shut e = refl
      shut (life.Open x g b) e = absurd (true≢false e)

  pub leaves-shut : (p : Place) → life.is_open (life.life w) ≡ false → leaves (window_of w) p ≡ Nobody
  unfolding leaves
  leaves-shut p e = ap (λ x. leaves x p) (shut-told e)

  leaves-open : (p : Place) → life.is_open (life.life w) ≡ true → leaves (window_of w) p ≡ cond (is_reserved p) (Kept (quota_of p) (period_of p)) Nobody
  leaves-open p e = ap (λ x. leaves x p) (window-read w) ∙ opens (life.life w) e
    where
      opens : (l : life.Life) → life.is_open l ≡ true → leaves (read l) p ≡ cond (is_reserved p) (Kept (quota_of p) (period_of p)) Nobody
      opens life.Shut e = absurd (false≢true e)
      opens (life.Open x g b) e = leaves-span x g b p

  pub leaves_kept : (p : Place) (q d : ℕ) → life.is_open (life.life w) ≡ true → p ≡ reserved_place q d → leaves (window_of w) p ≡ Kept q d
  unfolding is_reserved quota_of period_of
  leaves_kept p q d e s = leaves-open p e ∙ rw s refl

  pub leaves-other : (p : Place) → life.is_open (life.life w) ≡ true → is_reserved p ≡ false → leaves (window_of w) p ≡ Nobody
  leaves-other p e s = leaves-open p e ∙ rw s refl

-- what a task leaves whose window is open: its share if it had one
pub leaves-either : (w : code-window.Window) (p : Place) (o : Option Reservation) (r : Slot) → life.is_open (life.life w) ≡ true → MatchOption o (is_reserved p ≡ false) (λ x. p ≡ reserved_place x.quota x.period) →
    MatchOption o (r ≡ slot.Free) (λ x. r ≡ slot.Kept x) → place_of r ≡ leaves (window_of w) p
unfolding place_of
leaves-either w p None r e none free = ap place_of free ∙ sym (leaves-other w p e none)
leaves-either w p (Some x) r e some kept = ap place_of kept ∙ sym (leaves_kept w p x.quota x.period e some)
