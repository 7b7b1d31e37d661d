-- The locks of a guard stand in the order in which they were taken; the rules give back the last one first.
use Rattle.std.proofs.Common.{◌≡◌, ℕ, ◌<◌, List, [], ◌∷◌, ◌++◌, length, refl, ap, ◌∙◌, arith}
use Rattle.std.specs.Prelude.{reverse}
use Rattle.std.proofs.lemmas.List.{reverse-append}

pub on-top : (xs ys : List ℕ) (m : ℕ) → xs ≡ ys ++ (m ∷ []) → reverse xs ≡ m ∷ reverse ys
on-top xs ys m e = ap reverse e ∙ reverse-append ys (m ∷ [])

pub none_left : (xs : List ℕ) → (0 < length xs → ⊥) → reverse xs ≡ []
none_left [] n = refl
none_left (x ∷ xs) n = absurd (n (omega arith))
