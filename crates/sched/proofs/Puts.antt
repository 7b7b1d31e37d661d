-- What `put k y f` is: y at k, and f elsewhere.
use Rattle.std.proofs.Common.{◌≡◌, ℕ, Bool, true, false, cond, eqb, ◌⊎◌, refl, inl, inr}
use Rattle.std.proofs.lemmas.Bool.{cond-true, cond-false, cond_both, eq-eqb, ne_eqb, eqb-true, eqb-false}
use Rattle.sched.specs.House.{put}

module _ {A : Type 0} (k : ℕ) (y : A) (f : ℕ → A) where
  pub put-at : put k y f k ≡ y
  put-at = cond-true (eqb k k) y (f k) (eq-eqb k k refl)

  pub put-here : (j : ℕ) → j ≡ k → put k y f j ≡ y
  put-here j e = cond-true (eqb j k) y (f j) (eq-eqb j k e)

  pub put-else : (j : ℕ) → (j ≡ k → ⊥) → put k y f j ≡ f j
  put-else j n = cond-false (eqb j k) y (f j) (ne_eqb j k n)

  -- what holds of y, and of f elsewhere, holds of both together
  pub put_both : (j : ℕ) (P : A → Type 0) → (j ≡ k → P y) → ((j ≡ k → ⊥) → P (f j)) → P (put k y f j)
  put_both j P here else =
      cond_both (eqb j k) y (f j) P (λ e. here (eqb-true j k e)) (λ e. else (eqb-false j k e))

  pub put-cases : (j : ℕ) (z : A) → put k y f j ≡ z → ((j ≡ k) × (y ≡ z)) ⊎ ((j ≡ k → ⊥) × (f j ≡ z))
  put-cases j z =
      put_both j (λ x. x ≡ z → ((j ≡ k) × (y ≡ z)) ⊎ ((j ≡ k → ⊥) × (f j ≡ z))) (λ e p. inl (e, p)) (λ n p. inr (n, p))

-- two functions put at one place
pub put_two : {X Y : Type 0} (k : ℕ) (x : X) (y : Y) (f : ℕ → X) (g : ℕ → Y) (j : ℕ) (P : X → Y → Type 0) → (j ≡ k → P x y) → P (f j) (g j) → P (put k x f j) (put k y g j)
put_two k x y f g j P here else = go (eqb j k) (λ e. here (eqb-true j k e))
  where
    go : (b : Bool) → (b ≡ true → P x y) → P (cond b x (f j)) (cond b y (g j))
    go true p = p refl
    go false p = else
