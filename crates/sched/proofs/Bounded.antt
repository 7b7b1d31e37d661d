-- Searches below a number n: `some'`, `every` and `first`, what each finds and what it passes over.
use Rattle.std.proofs.Common.{◌≡◌, ℕ, zero, suc, ◌<◌, ◌≤◌, Bool, true, false, ◌||◌, ◌⊎◌, sym, refl, ◌∙◌, inl, inr, ⊎_elim, true≢false, arith}
use mathlib.Core.Bool.{false≢true}
use Rattle.std.proofs.lemmas.Bool.{cases_Bool, cases_eq, cases_lt, or_cases, or_left, or_right, and_from, cond_both}
use Rattle.sched.specs.House.{some', every, first}
use Rattle.sched.proofs.Tests.{same_test}

-- what holds below n, and at n, holds below n + 1
below_suc : (P : ℕ → Type 0) (n k : ℕ) → ((j : ℕ) → j < n → P j) → P n → k < suc n → P k
below_suc P n k below here h = ⊎_elim (λ e. rw e here) (λ ne. below k (omega arith)) (cases_eq k n)

module _ (f : ℕ → Bool) where
  pub some-from : (n k : ℕ) → k < n → f k ≡ true → some' n f ≡ true
  unfolding some'
  some-from zero k h e = absurd (omega arith)
  some-from (suc n) k h e =
      below_suc (λ j. f j ≡ true → (some' n f || f n) ≡ true) n k (λ j l t. or_left (some' n f) (f n) (some-from n j l t)) (or_right (some' n f) (f n)) h e

  pub some-witness : (n : ℕ) → some' n f ≡ true → (k : ℕ) × (k < n) × (f k ≡ true)
  unfolding some'
  some-witness zero e = absurd (false≢true e)
  some-witness (suc n) e = earlier (some-witness n) (or_cases (some' n f) (f n) e)
    where
      earlier : (some' n f ≡ true → (k : ℕ) × (k < n) × (f k ≡ true)) → (some' n f ≡ true) ⊎ (f n ≡ true) → (k : ℕ) × (k < suc n) × (f k ≡ true)
      earlier ih (inl p) = let w = ih p in (w.0, omega (arith, w.1), w.2)
      earlier ih (inr p) = (n, omega arith, p)

  pub none-at : (n k : ℕ) → some' n f ≡ false → k < n → f k ≡ false
  none-at n k none h =
      ⊎_elim (λ t. absurd (true≢false (sym (some-from n k h t) ∙ none))) (λ e. e) (cases_Bool (f k))

  pub none_from : (n : ℕ) → ((k : ℕ) → k < n → f k ≡ false) → some' n f ≡ false
  none_from n none =
      ⊎_elim (λ t. let w = some-witness n t in absurd (true≢false (sym w.2 ∙ none w.0 w.1))) (λ e. e) (cases_Bool (some' n f))

  pub every-from : (n : ℕ) → ((k : ℕ) → k < n → f k ≡ true) → every n f ≡ true
  unfolding every
  every-from zero all = refl
  every-from (suc n) all =
      and_from (every n f) (f n) (every-from n (λ k h. all k (omega arith))) (all n (omega arith))

  pub first-is : (n : ℕ) → some' n f ≡ true → f (first n f) ≡ true
  unfolding some' first
  first-is zero e = absurd (false≢true e)
  first-is (suc n) e =
      cond_both (some' n f) (first n f) n (λ k. f k ≡ true) (first-is n)
      (λ none. ⊎_elim (λ p. absurd (true≢false (sym p ∙ none))) (λ p. p) (or_cases (some' n f) (f n) e))

  pub first_below : (n : ℕ) → some' n f ≡ true → first n f < n
  unfolding some' first
  first_below zero e = absurd (false≢true e)
  first_below (suc n) e =
      cond_both (some' n f) (first n f) n (λ k. k < suc n) (λ p. let h = first_below n p in omega arith) (λ _. omega arith)

  -- whoever comes before the first isn't one
  pub before-first : (n k : ℕ) → k < first n f → f k ≡ false
  unfolding first
  before-first zero k h = absurd (omega arith)
  before-first (suc n) k h =
      cond_both (some' n f) (first n f) n (λ j. k < j → f k ≡ false) (λ _. before-first n k) (λ none l. none-at n k none l) h

  pub first-least : (n k : ℕ) → k < n → f k ≡ true → first n f ≤ k
  first-least n k h e = ⊎_elim (λ l. l) (λ l. absurd (true≢false (sym e ∙ before-first n k l))) (cases-le (first n f) k)
    where
      cases-le : (a b : ℕ) → (a ≤ b) ⊎ (b < a)
      cases-le a b = ⊎_elim (λ l. inr l) (λ l. inl l) (cases_lt b a)

  pub first-unique : (n k : ℕ) → k < n → f k ≡ true → ((j : ℕ) → j < k → f j ≡ false) → first n f ≡ k
  first-unique n k h e before =
      let one = some-from n k h e in
      let l = first-least n k h e in
      ⊎_elim (λ p. absurd (true≢false (sym (first-is n one) ∙ before (first n f) p))) (λ p. omega arith) (cases_lt (first n f) k)

module _ (f g : ℕ → Bool) where
  pub some_same : (n : ℕ) → ((k : ℕ) → k < n → f k ≡ g k) → some' n f ≡ some' n g
  some_same n same =
      same_test (some' n f) (some' n g)
      (λ e. let w = some-witness f n e in some-from g n w.0 w.1 (sym (same w.0 w.1) ∙ w.2))
      (λ e. let w = some-witness g n e in some-from f n w.0 w.1 (same w.0 w.1 ∙ w.2))

  pub first-same : (n : ℕ) → ((k : ℕ) → k < n → f k ≡ g k) → first n f ≡ first n g
  unfolding first
  first-same zero same = refl
  first-same (suc n) same =
      rw (some_same n (λ k h. same k (omega arith)), first-same n (λ k h. same k (omega arith))) refl
