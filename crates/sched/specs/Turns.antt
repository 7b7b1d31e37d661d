-- The turn of fixed tasks: who stands in it, and what a tick makes of it.
-- Assumes nothing.
use Rattle.std.specs.Prelude.{◌≡◌, ℕ, ◌-◌, cond, List, [], ◌∷◌, ◌++◌, ◌==◌}
use Rattle.sched.specs.House.{Place, is_task, is_fixed, without}
use Rattle.sched.specs.Promise.{times}

-- each task stands in the turn once, and nobody else does
abbrev pub OnceInTurn : (ℕ → Place) → List ℕ → Type 0
OnceInTurn place turn = (i : ℕ) → times i turn ≡ cond (is_task (place i)) 1 0

-- a tick has passed, 0 for nobody's, or 1 and whose it was: a fixed task goes to the end
abbrev pub turn_after : ℕ → (ℕ → Place) → List ℕ → List ℕ
turn_after r place turn = cond (r == 0) turn (cond (is_fixed (place (r - 1))) (without (r - 1) turn ++ ((r - 1) ∷ [])) turn)
