-- What the calls that change the queues come to.
use Rattle.std.proofs.Common.{◌≡◌, ℕ, ◌≤◌, true, false, is_some, Option, None, Some, List, [], ◌∷◌, ◌++◌, sym, refl, ap, ◌∙◌, subst, inl, inr}
use Rattle.std.proofs.lemmas.Bool.{cases_eq, eq-eqb, ne_eqb, true≢false}
use Rattle.quantities.specs.Ids.{TaskId, QueueId}
use Rattle.queues.specs.declared.fifo.Queues.{Queues}
use Rattle.queues.specs.Members.{Member, Free, times, rest, without, put}
use Rattle.queues.specs.Rings.{Holds}
use Rattle.queues.specs.Writes.{appended, unlinked}
use Rattle.queues.specs.Outcomes.{StandsIn, Pushed, Removed, Moved}
use Rattle.queues.proofs.Lists.{first-once, without-none, not-without}
use Rattle.queues.proofs.Standing.{in_one, holds_same}
use Rattle.queues.proofs.Removal.{unlinked-holds}
use Rattle.queues.proofs.Arrival.{appended-holds}

-- queues that agree with f but for q, where they are xs
same-put : (f g : ℕ → List ℕ) (q : ℕ) (xs : List ℕ) → g q ≡ xs → ((r : ℕ) → (r ≡ q → ⊥) → g r ≡ f r) → (r : ℕ) → g r ≡ put q xs f r
same-put f g q xs e others r =
    elim (cases_eq r q) [
      | inl w ↦ rw (eq-eqb r q w) (ap g w ∙ e)
      | inr n ↦ rw (ne_eqb r q n) (others r n)
    ]

module _ {s : Queues} {f : ℕ → List ℕ} (h : Holds s f) where
  -- it stands in no other queue, so the others stay as they are
  elsewhere : (q i : ℕ) → Member i (f q) → (r : ℕ) → (r ≡ q → ⊥) → without i (f r) ≡ f r
  elsewhere q i m r n = without-none i (f r) (λ k. n (in_one h i r q k m))

module _ {s t : Queues} {f : ℕ → List ℕ} (h : Holds s f) where
  pub pushed : (q : QueueId) (i : TaskId) → Free f i.index → t ≡ appended q i s → Pushed t f q.index i.index true
  pushed q i free e = record {
    free = λ _. refl;
    stood = λ p m. absurd (free p m);
    after = λ _. subst (λ u. Holds u (put q.index (f q.index ++ (i.index ∷ [])) f)) (sym e) (appended-holds s f q i h free);
  }

  pub removed : (q i : ℕ) → Member i (f q) → t ≡ unlinked q i s → Removed t f i true
  removed q i m e = record {
    free = λ free. absurd (free q m);
    stood = λ _ _. refl;
    after = subst (λ u. Holds u (λ p. without i (f p))) (sym e) (unlinked-holds s f q i h m);
  }

  pub moved : (q : QueueId) (i : TaskId) → Member i.index (f q.index) → t ≡ appended q i (unlinked q.index i.index s) → Moved t f i.index true
  moved q i m e = record {
    free = λ free. absurd (free q.index m);
    stood = λ _ _. refl;
    after = λ p k. subst (λ r. Holds t (put r (without i.index (f r) ++ (i.index ∷ [])) f)) (in_one h i.index q.index p m k) (subst (λ u. Holds u (put q.index (without i.index (f q.index) ++ (i.index ∷ [])) f)) (sym e) last);
  }
    where
      -- first out of its queue, then last in it
      twice : Holds (appended q i (unlinked q.index i.index s)) (put q.index (without i.index (f q.index) ++ (i.index ∷ [])) (λ p. without i.index (f p)))
      twice = appended-holds (unlinked q.index i.index s) (λ p. without i.index (f p)) q i (unlinked-holds s f q.index i.index h m) (λ p. not-without i.index (f p))

      last : Holds (appended q i (unlinked q.index i.index s)) (put q.index (without i.index (f q.index) ++ (i.index ∷ [])) f)
      last = holds_same twice (same-put f (put q.index (without i.index (f q.index) ++ (i.index ∷ [])) (λ p. without i.index (f p))) q.index (without i.index (f q.index) ++ (i.index ∷ [])) (rw (eq-eqb q.index q.index refl) refl) (λ r n. rw (ne_eqb r q.index n) (elsewhere h q.index i.index m r n)))

  pub popped : (q i : ℕ) → f q ≡ i ∷ rest (f q) → t ≡ unlinked q i s → Holds t (put q (rest (f q)) f)
  popped q i e w = subst (λ u. Holds u (put q (rest (f q)) f)) (sym w) (holds_same (unlinked-holds s f q i h m) (same-put f (λ p. without i (f p)) q (rest (f q)) own (elsewhere h q i m)))
    where
      m : Member i (f q)
      m = subst (λ l. Member i l) (sym e) (inl refl)

      own : without i (f q) ≡ rest (f q)
      own = ap (λ l. without i l) e ∙ (rw (eq-eqb i i refl) (without-none i (rest (f q)) (first-once i (rest (f q)) (subst (λ l. times i l ≤ 1) e (h.once q i)))))

-- who is told to stand in no queue stands in none
pub not-standing : (f : ℕ → List ℕ) (i : ℕ) (r : Option QueueId) → StandsIn f i r → is_some r ≡ false → Free f i
not-standing f i None told e = told
not-standing f i (Some q) told e = absurd (true≢false e)

-- where nothing is done
pub not-pushed : (s : Queues) (f : ℕ → List ℕ) (q i : ℕ) (r : Option QueueId) → StandsIn f i r → is_some r ≡ true → Pushed s f q i false
not-pushed s f q i None told e = absurd (true≢false (sym e))
not-pushed s f q i (Some p) told e = record { free = λ free. absurd (free p.index told.0); stood = λ p m. refl; after = λ w. absurd (true≢false (sym w)) }

module _ {s : Queues} {f : ℕ → List ℕ} (h : Holds s f) where
  pub not-removed : (i : ℕ) → Free f i → Removed s f i false
  not-removed i free = record {
    free = λ _. refl;
    stood = λ p m. absurd (free p m);
    after = holds_same h (λ q. sym (without-none i (f q) (free q)));
  }

  pub not-moved : (i : ℕ) → Free f i → Moved s f i false
  not-moved i free = record { free = λ _. refl; stood = λ p m. absurd (free p m); after = λ p m. absurd (free p m) }

  pub not_popped : (q : ℕ) → f q ≡ [] → Holds s (put q (rest (f q)) f)
  not_popped q e = holds_same h (same-put f f q (rest (f q)) (e ∙ sym (ap rest e)) (λ r n. refl))
