-- Words that are no command: too many.
use Rattle.std.proofs.Common.{◌≡◌, ℕ, ◌≤◌, List, [], ◌∷◌, length, None, refl, arith}
use Rattle.script.specs.Grammar.{of_words}

pub too_many : (ws : List (List ℕ)) → 5 ≤ length ws → of_words ws ≡ None
unfolding of_words
too_many [] l = absurd (omega (arith, l))
too_many (v ∷ []) l = absurd (omega (arith, l))
too_many (v ∷ a ∷ []) l = absurd (omega (arith, l))
too_many (v ∷ a ∷ b ∷ []) l = absurd (omega (arith, l))
too_many (v ∷ a ∷ b ∷ c ∷ []) l = absurd (omega (arith, l))
too_many (v ∷ a ∷ b ∷ c ∷ d ∷ ws) l = refl
