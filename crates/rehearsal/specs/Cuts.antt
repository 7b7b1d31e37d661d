-- A text in parts.
-- Assumes nothing.
use Rattle.std.specs.Prelude.{ℕ, cond, List, [], ◌∷◌, Some, None, Option, ◌==◌}
use Rattle.std.specs.Borrow.{Bor}
use Rattle.script.specs.Grammar.{on_first}
use Rattle.rehearsal.specs.declared.parts.Parts.{Parts}

-- it is cut at each such byte: an empty part stands between two in a row, before a first one and after a last one
unfoldable pub cut : ℕ → List ℕ → List (List ℕ)
cut by [] = [] ∷ []
cut by (b ∷ bs) = cond (b == by) ([] ∷ cut by bs) (on_first b (cut by bs))

-- the parts of what is left of it, if anything is
abbrev pub left_of : ℕ → Option (Bor (List ℕ)) → List (List ℕ)
left_of by None = []
left_of by (Some t) = cut by t.now

abbrev pub left : Parts → List (List ℕ)
left p = left_of p.by p.rest
