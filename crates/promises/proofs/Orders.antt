-- Lists in the order of a date, of which only some members count: what pushing, taking out and choosing the first leave of that.
use Rattle.std.proofs.Common.{◌≡◌, ℕ, suc, ◌<◌, Bool, true, eqb, ◌⊎◌, List, [], ◌∷◌, ◌++◌, sym, refl, ◌∙◌, inl, inr, ⊎_elim, arith}
use Rattle.std.proofs.lemmas.Bool.{cond_both, both_ways, eqb-true, eqb-false}
use Rattle.sched.specs.House.{without, in_turn}

abbrev pub Among : ℕ → List ℕ → Type 0
Among k [] = ⊥
Among k (i ∷ is) = (k ≡ i) ⊎ Among k is

pub among-push : (k n : ℕ) (is : List ℕ) → Among k (is ++ (n ∷ [])) → Among k is ⊎ (k ≡ n)
among-push k n [] (inl e) = inr e
among-push k n [] (inr e) = absurd e
among-push k n (i ∷ is) (inl e) = inl (inl e)
among-push k n (i ∷ is) (inr a) = ⊎_elim (λ b. inl (inr b)) inr (among-push k n is a)

pub push-among : (k n : ℕ) (is : List ℕ) → Among k is ⊎ (k ≡ n) → Among k (is ++ (n ∷ []))
push-among k n [] (inl a) = absurd a
push-among k n [] (inr e) = inl e
push-among k n (i ∷ is) (inl (inl e)) = inl e
push-among k n (i ∷ is) (inl (inr a)) = inr (push-among k n is (inl a))
push-among k n (i ∷ is) (inr e) = inr (push-among k n is (inr e))

pub among-without : (k i : ℕ) (is : List ℕ) → Among k (without i is) → Among k is × (k ≡ i → ⊥)
unfolding without
among-without k i [] a = absurd a
among-without k i (j ∷ js) a =
    cond_both (eqb i j) (without i js) (j ∷ without i js) (λ l. Among k l → Among k (j ∷ js) × (k ≡ i → ⊥))
    (λ _ b. let c = among-without k i js b in (inr c.0, c.1))
    (λ e b. ⊎_elim (λ here. (inl here, λ same. eqb-false i j e (sym same ∙ here))) (λ there. let c = among-without k i js there in (inr c.0, c.1)) b) a

pub without-among : (k i : ℕ) (is : List ℕ) → Among k is → (k ≡ i → ⊥) → Among k (without i is)
unfolding without
without-among k i [] a n = absurd a
without-among k i (j ∷ js) a n =
    cond_both (eqb i j) (without i js) (j ∷ without i js) (Among k)
    (λ e. ⊎_elim (λ here. absurd (n (here ∙ sym (eqb-true i j e)))) (λ there. without-among k i js there n) a)
    (λ _. ⊎_elim inl (λ there. inr (without-among k i js there n)) a)

-- of those that count, an earlier one has the earlier date
abbrev pub InOrder : (ℕ → Bool) → (ℕ → ℕ) → List ℕ → Type 0
InOrder f last [] = Unit {0}
InOrder f last (i ∷ is) = (f i ≡ true → (k : ℕ) → Among k is → f k ≡ true → last i < last k) × InOrder f last is

module _ (f : ℕ → Bool) (last : ℕ → ℕ) where
  pub order-push : (n : ℕ) (is : List ℕ) → InOrder f last is → ((k : ℕ) → Among k is → f k ≡ true → last k < last n) → InOrder f last (is ++ (n ∷ []))
  order-push n [] o l = (λ _ k a. absurd a, tt)
  order-push n (i ∷ is) o l =
      (λ e k a g. ⊎_elim (λ b. o.0 e k b g) (λ same. rw same (l i (inl refl) e)) (among-push k n is a), order-push n is o.1 (λ k a. l k (inr a)))

  pub order-without : (i : ℕ) (is : List ℕ) → InOrder f last is → InOrder f last (without i is)
  unfolding without
  order-without i [] o = tt
  order-without i (j ∷ js) o =
      cond_both (eqb i j) (without i js) (j ∷ without i js) (InOrder f last) (λ _. order-without i js o.1)
      (λ _. (λ e k a g. o.0 e k (among-without k i js a).0 g, order-without i js o.1))

  pub order_same : (g : ℕ → Bool) (new : ℕ → ℕ) (is : List ℕ) → ((k : ℕ) → Among k is → g k ≡ true → (f k ≡ true) × (new k ≡ last k)) → InOrder f last is → InOrder g new is
  order_same g new [] same o = tt
  order_same g new (i ∷ is) same o = (
    λ e k a h. let here = same i (inl refl) e in let there = same k (inr a) h in rw (here.1, there.1) (o.0 here.0 k a there.0),
    order_same g new is (λ k a. same k (inr a)) o.1,
  )

  -- the first of those that may, all of which count, has the earliest date
  pub first-earliest : (may : ℕ → Bool) → ((k : ℕ) → may k ≡ true → f k ≡ true) → (is : List ℕ) → InOrder f last is → (i : ℕ) → in_turn may is ≡ suc i → (k : ℕ) → Among k is → may k ≡ true → (k ≡ i → ⊥) → last i < last k
  unfolding in_turn
  first-earliest may counts [] o i e k a m n = absurd a
  first-earliest may counts (x ∷ xs) o i e k a m n =
      cond_both (may x) (suc x) (in_turn may xs) (λ s. s ≡ suc i → last i < last k)
      (λ mx s. let same : i ≡ x = omega arith in ⊎_elim (λ here. absurd (n (here ∙ sym same))) (λ there. rw same (o.0 (counts x mx) k there (counts k m))) a)
      (λ no' s. ⊎_elim (λ here. absurd (both_ways (may x) no' (rw here at m))) (λ there. first-earliest may counts xs o.1 i s k there m n) a) e
