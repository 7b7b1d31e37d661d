-- What is handed on, piece by piece.
-- Assumes nothing.
use Rattle.std.specs.Prelude.{◌≡◌, ℕ, List, Result, Ok}
use Rattle.std.specs.Borrow.{Bor}
use Rattle.std.specs.Fn.{Mut, CalledAt}
use Rattle.std.specs.List.{FoldsTo, concat}

-- each of these pieces was taken, in their order, and that led from f to last
abbrev pub HandedOn : {F E : Type 0} → Mut F (Bor (List ℕ) × Unit {0}) (Result (Unit {0}) E) → F → List (List ℕ) → F → Type 0
HandedOn g f pieces last = FoldsTo (λ p x q. CalledAt g p x (Ok tt) q) f pieces last

-- these bytes were taken from the first to the last, piece by piece
abbrev pub TakenWhole : {F E : Type 0} → Mut F (Bor (List ℕ) × Unit {0}) (Result (Unit {0}) E) → F → List ℕ → Type 0
TakenWhole {F} g f xs = (pieces : List (List ℕ)) × (last : F) × (concat pieces ≡ xs) × HandedOn g f pieces last
