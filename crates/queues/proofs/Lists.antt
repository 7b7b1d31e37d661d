-- Who stands in a list, and how often, after one is taken out of it or put last.
use Rattle.std.proofs.Common.{◌≡◌, ℕ, ◌+◌, ◌≤◌, ◌⊎◌, List, [], ◌∷◌, ◌++◌, sym, refl, ap, ◌∙◌, inl, inr, arith}
use Rattle.std.proofs.lemmas.Bool.{cases_eq, eq-eqb, ne_eqb}
use Rattle.queues.specs.Members.{Member, times, without}

pub member-times : (i : ℕ) (xs : List ℕ) → Member i xs → 1 ≤ times i xs
member-times i [] m = absurd m
member-times i (x ∷ xs) (inl e) = rw (eq-eqb i x e) (omega arith)
member-times i (x ∷ xs) (inr m) = omega (arith, member-times i xs m)

pub times-member : (i : ℕ) (xs : List ℕ) → 1 ≤ times i xs → Member i xs
times-member i [] h = omega arith
times-member i (x ∷ xs) h = elim (cases_eq i x) [ inl e ↦ inl e | inr n ↦ inr (times-member i xs (let k = rw (ne_eqb i x n) at h in omega arith)) ]

pub times_none : (i : ℕ) (xs : List ℕ) → (Member i xs → ⊥) → times i xs ≡ 0
times_none i [] n = refl
times_none i (x ∷ xs) n = rw (ne_eqb i x (λ e. n (inl e))) (omega (arith, times_none i xs (λ m. n (inr m))))

-- the first does not come again
pub first-once : (i : ℕ) (xs : List ℕ) → times i (i ∷ xs) ≤ 1 → Member i xs → ⊥
first-once i xs h m = let k = rw (eq-eqb i i refl) at h in omega (arith, member-times i xs m)

pub times-rest : (i x : ℕ) (xs : List ℕ) → times i (x ∷ xs) ≤ 1 → times i xs ≤ 1
times-rest i x xs h = omega arith

pub without-none : (i : ℕ) (xs : List ℕ) → (Member i xs → ⊥) → without i xs ≡ xs
without-none i [] n = refl
without-none i (x ∷ xs) n = rw (ne_eqb i x (λ e. n (inl e))) (ap (λ l. x ∷ l) (without-none i xs (λ m. n (inr m))))

pub member-without : (i j : ℕ) (xs : List ℕ) → Member j (without i xs) → Member j xs
member-without i j [] m = absurd m
member-without i j (x ∷ xs) m =
    elim (cases_eq i x) [
      | inl e ↦ inr (member-without i j xs (rw (eq-eqb i x e) at m))
      | inr n ↦ elim (rw (ne_eqb i x n) at m) [ inl e ↦ inl e | inr k ↦ inr (member-without i j xs k) ]
    ]

pub not-without : (i : ℕ) (xs : List ℕ) → Member i (without i xs) → ⊥
not-without i [] m = absurd m
not-without i (x ∷ xs) m =
    elim (cases_eq i x) [
      | inl e ↦ not-without i xs (rw (eq-eqb i x e) at m)
      | inr n ↦ elim (rw (ne_eqb i x n) at m) [ inl e ↦ n e | inr k ↦ not-without i xs k ]
    ]

pub without-member : (i j : ℕ) (xs : List ℕ) → (j ≡ i → ⊥) → Member j xs → Member j (without i xs)
without-member i j [] n m = absurd m
without-member i j (x ∷ xs) n (inl e) = rw (ne_eqb i x (λ d. n (e ∙ sym d))) (inl e)
without-member i j (x ∷ xs) n (inr m) =
    elim (cases_eq i x) [ inl e ↦ rw (eq-eqb i x e) (without-member i j xs n m) | inr d ↦ rw (ne_eqb i x d) (inr (without-member i j xs n m)) ]

pub times-without : (i j : ℕ) (xs : List ℕ) → times j (without i xs) ≤ times j xs
times-without i j [] = omega arith
times-without i j (x ∷ xs) =
    elim (cases_eq i x) [ inl e ↦ rw (eq-eqb i x e) (omega (arith, times-without i j xs)) | inr d ↦ rw (ne_eqb i x d) (omega (arith, times-without i j xs)) ]

pub member-push : (i j : ℕ) (xs : List ℕ) → Member j (xs ++ (i ∷ [])) → Member j xs ⊎ (j ≡ i)
member-push i j [] (inl e) = inr e
member-push i j [] (inr m) = absurd m
member-push i j (x ∷ xs) (inl e) = inl (inl e)
member-push i j (x ∷ xs) (inr m) = elim (member-push i j xs m) [ inl k ↦ inl (inr k) | inr e ↦ inr e ]

pub push-member : (i j : ℕ) (xs : List ℕ) → Member j xs → Member j (xs ++ (i ∷ []))
push-member i j [] m = absurd m
push-member i j (x ∷ xs) (inl e) = inl e
push-member i j (x ∷ xs) (inr m) = inr (push-member i j xs m)

pub push-last : (i : ℕ) (xs : List ℕ) → Member i (xs ++ (i ∷ []))
push-last i [] = inl refl
push-last i (x ∷ xs) = inr (push-last i xs)

pub times-push : (i j : ℕ) (xs : List ℕ) → times j (xs ++ (i ∷ [])) ≡ times j xs + times j (i ∷ [])
times-push i j [] = omega arith
times-push i j (x ∷ xs) = omega (arith, times-push i j xs)
