-- Rings through 64: what is known of the neighbours in one, what keeps it, and how one is taken out or put last.
use Rattle.std.proofs.Common.{◌≡◌, ℕ, ◌≤◌, ◌⊎◌, List, [], ◌∷◌, ◌++◌, sym, refl, ap, ◌∙◌, subst, inl, inr}
use Rattle.std.proofs.lemmas.Bool.{cases_eq, eq-eqb, ne_eqb}
use Rattle.queues.specs.declared.fifo.Queues.{Queues}
use Rattle.queues.specs.Members.{Member, times, without}
use Rattle.queues.specs.Rings.{after, before, Linked, Ring}
use Rattle.queues.proofs.Lists.{first-once, times-rest, without-none}

-- neighbours in a ring
module _ (s : Queues) (q : ℕ) where
  -- who comes after a comes after it, seen from either side
  pub ring-starts : (a : ℕ) (xs : List ℕ) → Ring s q a xs → Linked s q a (after s q a)
  ring-starts a [] ring = (refl, ap (λ k. before s q k) ring.0 ∙ ring.1)
  ring-starts a (x ∷ xs) ring = (refl, ap (λ k. before s q k) ring.0.0 ∙ ring.0.1)

  pub ring-ends : (a : ℕ) (xs : List ℕ) → Ring s q a xs → after s q (before s q 64) ≡ 64
  ring-ends a [] ring = ap (λ k. after s q k) ring.1 ∙ ring.0
  ring-ends a (x ∷ xs) ring = ring-ends x xs ring.1

  -- the last is where the ring starts, or one of those in it
  pub ring-last : (a : ℕ) (xs : List ℕ) → Ring s q a xs → (before s q 64 ≡ a) ⊎ Member (before s q 64) xs
  ring-last a [] ring = inl ring.1
  ring-last a (x ∷ xs) ring = inr (ring-last x xs ring.1)

  -- whoever is in a ring is linked to both neighbours
  pub ring-around : (i a : ℕ) (xs : List ℕ) → Ring s q a xs → Member i xs → Linked s q (before s q i) i × Linked s q i (after s q i)
  ring-around i a [] ring m = absurd m
  ring-around i a (x ∷ xs) ring (inl e) = (
    (ap (λ k. after s q k) (ap (λ k. before s q k) e ∙ ring.0.1) ∙ (ring.0.0 ∙ sym e), refl),
    subst (λ k. Linked s q k (after s q k)) (sym e) (ring-starts x xs ring.1),
  )
  ring-around i a (x ∷ xs) ring (inr m) = ring-around i x xs ring.1 m

  -- who comes after i is the first of those behind it, or 64
  pub ring-behind : (i a : ℕ) (xs ys : List ℕ) → Ring s q a (xs ++ (i ∷ ys)) → Ring s q i ys
  ring-behind i a [] ys ring = ring.1
  ring-behind i a (x ∷ xs) ys ring = ring-behind i x xs ys ring.1

-- a ring is kept by whatever keeps the links in it
pub ring-kept : (s t : Queues) (q a : ℕ) (xs : List ℕ) → ((c d : ℕ) → (c ≡ a) ⊎ Member c xs → (d ≡ 64) ⊎ Member d xs → Linked s q c d → Linked t q c d) → Ring s q a xs → Ring t q a xs
ring-kept s t q a [] keeps ring = keeps a 64 (inl refl) (inl refl) ring
ring-kept s t q a (x ∷ xs) keeps ring = (keeps a x (inl refl) (inr (inl refl)) ring.0, ring-kept s t q x xs (λ c d m n. keeps c d (inr m) (deeper d n)) ring.1)
  where
    deeper : (d : ℕ) → (d ≡ 64) ⊎ Member d xs → (d ≡ 64) ⊎ Member d (x ∷ xs)
    deeper d (inl e) = inl e
    deeper d (inr m) = inr (inr m)

-- i, of which the neighbours are linked to each other in t, which has the other links of s, is out of the ring.
module _ (s t : Queues) (q i : ℕ) (far : 64 ≡ i → ⊥) (closed : Linked t q (before s q i) (after s q i)) (keeps : (c d : ℕ) → (c ≡ i → ⊥) → (d ≡ i → ⊥) → Linked s q c d → Linked t q c d) where
  -- the ring behind i, now behind the one before it
  passed : (xs : List ℕ) → (Member i xs → ⊥) → Ring s q i xs → Ring t q (before s q i) xs
  passed [] n ring = subst (λ k. Linked t q (before s q i) k) ring.0 closed
  passed (x ∷ xs) n ring = (
    subst (λ k. Linked t q (before s q i) k) ring.0.0 closed,
    ring-kept s t q x xs (λ c d m k l. keeps c d (not_first c m) (not_next d k) l) ring.1,
  )
    where
      not_first : (c : ℕ) → (c ≡ x) ⊎ Member c xs → c ≡ i → ⊥
      not_first c (inl e) w = n (inl (sym w ∙ e))
      not_first c (inr m) w = n (inr (subst (λ k. Member k xs) w m))

      not_next : (d : ℕ) → (d ≡ 64) ⊎ Member d xs → d ≡ i → ⊥
      not_next d (inl e) w = far (sym e ∙ w)
      not_next d (inr m) w = n (inr (subst (λ k. Member k xs) w m))

  pub ring-without : (a : ℕ) (xs : List ℕ) → (a ≡ i → ⊥) → Member i xs → times i xs ≤ 1 → Ring s q a xs → Ring t q a (without i xs)
  ring-without a [] n m h ring = absurd m
  ring-without a (x ∷ xs) n m h ring =
      elim (cases_eq i x) [
        | inl e ↦ rw (eq-eqb i x e) (here e)
        | inr d ↦ rw (ne_eqb i x d) (keeps a x n (λ w. d (sym w)) ring.0, ring-without x xs (λ w. d (sym w)) (elim m [ inl e ↦ absurd (d e) | inr k ↦ k ]) (times-rest i x xs h) ring.1)
      ]
    where
      alone : i ≡ x → Member i xs → ⊥
      alone e = first-once i xs (subst (λ k. times i (k ∷ xs) ≤ 1) (sym e) h)

      here : i ≡ x → Ring t q a (without i xs)
      here e =
          subst (λ l. Ring t q a l) (sym (without-none i xs (alone e))) (subst (λ k. Ring t q k xs) (ap (λ k. before s q k) e ∙ ring.0.1) (passed xs (alone e) (subst (λ k. Ring s q k xs) (sym e) ring.1)))

-- i, which t links to the last of the ring and to 64, while it has the other links of s, is the last of the ring.
module _ (s t : Queues) (q i : ℕ) (last : Linked t q (before s q 64) i) (closed : Linked t q i 64) where
  pub ring-with : (a : ℕ) (xs : List ℕ) → ((c d : ℕ) → (c ≡ a) ⊎ Member c xs → Member d xs → Linked s q c d → Linked t q c d) → Ring s q a xs → Ring t q a (xs ++ (i ∷ []))
  ring-with a [] keeps ring = (subst (λ k. Linked t q k i) ring.1 last, closed)
  ring-with a (x ∷ xs) keeps ring = (keeps a x (inl refl) (inl refl) ring.0, ring-with x xs (λ c d m n. keeps c d (inr m) (inr n)) ring.1)
