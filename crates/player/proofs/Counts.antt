-- Writing past the end of a list, or what stands there already, changes nothing; and whose a tick is.
use Rattle.std.proofs.Common.{◌≡◌, ℕ, zero, suc, ◌≤◌, T, List, [], ◌∷◌, length, get_or, set, Option, sym, refl, ap, subst, arith}
use Rattle.sched.specs.declared.Scheduler.{Scheduler}
use Rattle.sched.specs.House.{House, may_run, after}
use Rattle.sched.specs.Stores.{Holds}

pub set_past : {X : Type 0} (xs : List X) (i : ℕ) (y : X) → length xs ≤ i → set xs i y ≡ xs
set_past [] i y l = refl
set_past (x ∷ xs) zero y l = absurd (omega arith)
set_past (x ∷ xs) (suc i) y l = ap (λ t. x ∷ t) (set_past xs i y (omega arith))

pub set-read : {X : Type 0} (xs : List X) (i : ℕ) (d : X) → set xs i (get_or xs i d) ≡ xs
set-read [] i d = refl
set-read (x ∷ xs) zero d = refl
set-read (x ∷ xs) (suc i) d = ap (λ t. x ∷ t) (set-read xs i d)

-- whose a tick is, by another name
pub picked : (s t u : Scheduler) (o w : Option ℕ) (j : ℕ) → u ≡ t → o ≡ w → ((h : House) → Holds s h → T (may_run h o j) × Holds t (after h o)) → (h : House) → Holds s h → T (may_run h w j) × Holds u (after h w)
picked s t u o w j same is says h holds =
    let a = subst (λ (v : Option ℕ). T (may_run h v j) × Holds t (after h v)) is (says h holds) in
    (a.0, subst (λ (v : Scheduler). Holds v (after h w)) (sym same) a.1)
