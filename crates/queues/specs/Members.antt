-- Lists of members: who stands in one, how often, and what is left of it.
-- Assumes nothing.
use Rattle.std.specs.Prelude.{◌≡◌, ℕ, ◌+◌, cond, ◌⊎◌, List, [], ◌∷◌, ◌==◌}

abbrev pub Member : ℕ → List ℕ → Type 0
Member i [] = ⊥
Member i (j ∷ js) = (i ≡ j) ⊎ Member i js

-- i stands in none of the queues
abbrev pub Free : (ℕ → List ℕ) → ℕ → Type 0
Free f i = (q : ℕ) → Member i (f q) → ⊥

abbrev pub times : ℕ → List ℕ → ℕ
times i [] = 0
times i (j ∷ js) = cond (i == j) 1 0 + times i js

abbrev pub without : ℕ → List ℕ → List ℕ
without i [] = []
without i (j ∷ js) = cond (i == j) (without i js) (j ∷ without i js)

-- all but the first
abbrev pub rest : List ℕ → List ℕ
rest [] = []
rest (j ∷ js) = js

abbrev pub put : {X : Type 0} → ℕ → X → (ℕ → X) → ℕ → X
put k y f j = cond (j == k) y (f j)
