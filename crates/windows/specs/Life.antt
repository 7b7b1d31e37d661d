-- What becomes of a reservation's window in a tick.
-- Assumes nothing.
use Rattle.std.specs.Prelude.{ℕ, zero, suc, ◌+◌, Bool, true, false, Option, Some, None, cond, not, ◌&&◌, ◌||◌, nat_lt}
use Rattle.windows.specs.declared.span.Span.{Span}
use Rattle.windows.specs.declared.Window.{Window}

-- A window, by its numbers: so many ticks to go, this one among them, so many had, and whether its task has wanted every one.
pub data Life : Type 0 where
  Shut : Life
  Open : (ends got : ℕ) → (whole : Bool) → Life

abbrev pub life_of : Option Span → Life
life_of None = Shut
life_of (Some s) = Open s.ends s.got s.whole

-- what the code keeps, as its numbers
abbrev pub life : Window → Life
life w = life_of w.span

-- A tick begins: one opens if its task wants the tick; one in which its task doesn't want isn't whole any more.
abbrev pub open_with : Bool → ℕ → Life → Life
open_with w p Shut = cond w (Open p 0 true) Shut
open_with w p (Open e g b) = Open e g (b && w)

-- A tick begins for a share whose task is gone.
abbrev pub open_kept : Life → Life
open_kept Shut = Shut
open_kept (Open e g b) = Open e g false

-- A tick passes, and counts here if it was this task's.
abbrev pub passed : Bool → Life → Life
passed mine Shut = Shut
passed mine (Open zero g b) = Shut
passed mine (Open (suc zero) g b) = Shut
passed mine (Open (suc (suc e)) g b) = Open (suc e) (cond mine (g + 1) g) b

abbrev pub got_of : Life → ℕ
got_of Shut = 0
got_of (Open e g b) = g

abbrev pub is_open : Life → Bool
is_open Shut = false
is_open (Open e g b) = true

-- Who is served first: of open windows whole ones before others, and among like ones the earliest end.
abbrev pub goes_before : Life → Life → Bool
goes_before Shut m = false
goes_before (Open e g b) Shut = true
goes_before (Open e g b) (Open f k c) = cond b (not c || nat_lt e f) (not c && nat_lt e f)
