-- What can be relied on of windows: the order in which they are served, and how long one lasts.
use Rattle.std.specs.Prelude.{◌≡◌, ℕ, ◌<◌, Bool, true, false, List, [], ◌∷◌, length}
use Rattle.windows.specs.Life.{Life, Shut, Open, open_with, passed, is_open, goes_before}

-- THE ORDER. A whole window goes before one that isn't, whichever ends first.
abbrev pub WholeGoFirst : Type 0
WholeGoFirst = (e g f k : ℕ) → goes_before (Open e g true) (Open f k false) ≡ true

-- No window goes before itself.
abbrev pub BeforeIsIrreflexive : Type 0
BeforeIsIrreflexive = (l : Life) → goes_before l l ≡ false

-- Who goes before one that goes before a third goes before the third.
abbrev pub BeforeIsTransitive : Type 0
BeforeIsTransitive = (l m n : Life) → goes_before l m ≡ true → goes_before m n ≡ true → goes_before l n ≡ true

-- ITS TICKS. In each the window's task wants the tick or not, and has it or not.
pub record Tick : Type 0 where
  pub wants : Bool
  pub mine : Bool

-- What becomes of a window of a reservation of period p in these ticks.
abbrev pub ticked : ℕ → List Tick → Life → Life
ticked p [] l = l
ticked p (t ∷ ts) l = ticked p ts (passed t.mine (open_with t.wants p l))

abbrev pub is_whole : Life → Bool
is_whole Shut = false
is_whole (Open e g b) = b

-- It is open for as many ticks as it has to go, whoever has them,
abbrev pub OpenUntilTheEnd : Type 0
OpenUntilTheEnd = (p e g : ℕ) (b : Bool) (ts : List Tick) → length ts < e → is_open (ticked p ts (Open e g b)) ≡ true

-- and no longer.
abbrev pub ShutAtTheEnd : Type 0
ShutAtTheEnd = (p e g : ℕ) (b : Bool) (ts : List Tick) → 0 < e → length ts ≡ e → ticked p ts (Open e g b) ≡ Shut

-- One that isn't whole any more isn't whole again as long as it lasts, whatever its task wants.
abbrev pub NeverWholeAgain : Type 0
NeverWholeAgain = (p e g : ℕ) (ts : List Tick) → length ts < e → is_whole (ticked p ts (Open e g false)) ≡ false
