-- A state to which a member is appended that stood in no queue stands for the queues with it put last in one.
use Rattle.std.proofs.Common.{◌≡◌, ℕ, ◌<◌, ◌≤◌, ◌⊎◌, List, [], ◌∷◌, ◌++◌, None, Some, sym, refl, ap, ◌∙◌, subst, inl, inr, arith}
use Rattle.std.proofs.lemmas.Bool.{cases_eq, eq-eqb, ne_eqb}
use Rattle.quantities.specs.Ids.{TaskId, QueueId}
use Rattle.queues.specs.declared.fifo.Queues.{Queues}
use Rattle.queues.specs.Members.{Member, Free, times, put}
use Rattle.queues.specs.Rings.{Holds, Linked, Ring, packed, ends_of, before, place_of}
use Rattle.queues.specs.Writes.{set_place, joined, appended}
use Rattle.queues.proofs.Lists.{times_none, member-push, push-member, push-last, times-push}
use Rattle.queues.proofs.Writes.{Sized, sized, Apart, Joins, joins, before-of-end, apart-after, place-leaves, place_here, place-else, place-sized}
use Rattle.queues.proofs.Chains.{ring-ends, ring-last, ring-kept, ring-with}

module _ (s : Queues) (f : ℕ → List ℕ) (q : QueueId) (i : TaskId) (h : Holds s f) (free : Free f i.index) where
  -- behind the last, then in front of 64, and then it is said where it stands
  behind : Queues
  behind = joined q.index (ends_of s q.index).tail (packed (Some i)) s

  shut : Queues
  shut = joined q.index (packed (Some i)) (packed None) behind

  come : Queues
  come = set_place i.index (packed (Some q)) shut

  with_it : ℕ → List ℕ
  with_it = put q.index (f q.index ++ (i.index ∷ [])) f

  first-join : Joins s behind q.index (before s q.index 64) i.index
  unfolding behind
  first-join = subst (λ k. Joins s behind q.index k i.index) (sym (before-of-end s q.index 64 (omega arith))) (joins s q.index (ends_of s q.index).tail (packed (Some i)) (sized s h.members h.queues) q.within)

  second-join : Joins behind shut q.index i.index 64
  unfolding shut
  second-join = joins behind q.index (packed (Some i)) (packed None) first-join.size q.within

  last-or-none : (before s q.index 64 ≡ 64) ⊎ Member (before s q.index 64) (f q.index)
  last-or-none = ring-last s q.index 64 (f q.index) (h.ring q.index q.within)

  not-me : (r c : ℕ) → (c ≡ 64) ⊎ Member c (f r) → c ≡ i.index → ⊥
  not-me r c (inl e) w = omega arith
  not-me r c (inr m) w = free r (subst (λ j. Member j (f r)) w m)

  -- a spot of somebody else is another than i's
  from-me : (r c : ℕ) → (c ≡ 64) ⊎ Member c (f r) → Apart r c q.index i.index
  from-me r c m = (λ _. not-me r c m, λ l k e. omega arith)

  -- a link from c to d is another than those that are made, where c is not the last of q and d not its 64
  keeps : (r c d : ℕ) → (c ≡ 64) ⊎ Member c (f r) → (d ≡ 64) ⊎ Member d (f r) → Apart r c q.index (before s q.index 64) → Apart r d q.index 64 → Linked s r c d → Linked come r c d
  unfolding come
  keeps r c d mc md pc pd l =
      place-leaves shut i.index (packed (Some q)) r c d (
        second-join.after_kept r c (from-me r c mc) ∙ (first-join.after_kept r c pc ∙ l.0),
        second-join.before-kept r d pd ∙ (first-join.before-kept r d (from-me r d md) ∙ l.1),
      )

  last-linked : Linked come q.index (before s q.index 64) i.index
  unfolding come
  last-linked =
      place-leaves shut i.index (packed (Some q)) q.index (before s q.index 64) i.index (
        second-join.after_kept q.index (before s q.index 64) (from-me q.index (before s q.index 64) last-or-none) ∙ first-join.there.0,
        second-join.before-kept q.index i.index (λ l e. omega arith, λ l k e. omega arith) ∙ first-join.there.1,
      )

  closed : Linked come q.index i.index 64
  unfolding come
  closed = place-leaves shut i.index (packed (Some q)) q.index i.index 64 second-join.there

  own-ring : Ring come q.index 64 (f q.index ++ (i.index ∷ []))
  own-ring = ring-with s come q.index i.index last-linked closed 64 (f q.index) kept (h.ring q.index q.within)
    where
      -- a link to a member: 64 comes after the last
      kept : (c d : ℕ) → (c ≡ 64) ⊎ Member c (f q.index) → Member d (f q.index) → Linked s q.index c d → Linked come q.index c d
      kept c d mc md l =
          let below : d < 64 = h.member q.index d md in
          let ends = ring-ends s q.index 64 (f q.index) (h.ring q.index q.within) in
          keeps q.index c d mc (inr md) (apart-after s q.index c q.index (before s q.index 64) (λ e. omega (arith, l.0, e, ends, below))) (λ b e. omega (arith, below, e), λ b k e. omega (arith, below, b)) l

  other-ring : (r : ℕ) → r < 64 → (r ≡ q.index → ⊥) → Ring come r 64 (f r)
  other-ring r b n = ring-kept s come r 64 (f r) (λ c d mc md l. keeps r c d mc md (elsewhere c mc) (λ k e. omega arith, λ k o e. n e) l) (h.ring r b)
    where
      -- the last of q stands in q, if it is a member
      apart : (c : ℕ) → (c ≡ 64) ⊎ Member c (f r) → (before s q.index 64 ≡ 64) ⊎ Member (before s q.index 64) (f q.index) → c < 64 → c ≡ before s q.index 64 → ⊥
      apart c (inl e) z k w = omega arith
      apart c (inr m) (inl e) k w = omega (arith, e, w, k)
      apart c (inr m) (inr z) k w = n (sym (h.place r c m) ∙ (ap (λ j. place_of s j) w ∙ h.place q.index _ z))

      elsewhere : (c : ℕ) → (c ≡ 64) ⊎ Member c (f r) → Apart r c q.index (before s q.index 64)
      elsewhere c mc = (apart c mc last-or-none, λ k o e. n e)

  come-place : (j : ℕ) → (j ≡ i.index → ⊥) → place_of come j ≡ place_of s j
  unfolding come
  come-place j n = place-else shut i.index (packed (Some q)) j n ∙ (second-join.place_kept j ∙ first-join.place_kept j)

  here : place_of come i.index ≡ q.index
  unfolding come
  here = place_here shut i.index (packed (Some q)) second-join.size i.within

  come-sized : Sized come
  unfolding come
  come-sized = place-sized shut i.index (packed (Some q)) second-join.size

  -- what holds of the queue that grew, and of the others, holds of all
  each : (P : ℕ → List ℕ → Type 0) → P q.index (f q.index ++ (i.index ∷ [])) → ((r : ℕ) → (r ≡ q.index → ⊥) → P r (f r)) → (r : ℕ) → P r (with_it r)
  unfolding with_it
  each P own other r =
      elim (cases_eq r q.index) [
        | inl e ↦ rw (eq-eqb r q.index e) (subst (λ k. P k (f q.index ++ (i.index ∷ []))) (sym e) own)
        | inr n ↦ rw (ne_eqb r q.index n) (other r n)
      ]

  -- who stands there now stood there, or is i
  stood : (r j : ℕ) → Member j (with_it r) → Member j (f r) ⊎ ((j ≡ i.index) × (r ≡ q.index))
  stood r j = each (λ r xs. Member j xs → Member j (f r) ⊎ ((j ≡ i.index) × (r ≡ q.index))) (λ m. own (member-push i.index j (f q.index) m)) (λ r n m. inl m) r
    where
      own : Member j (f q.index) ⊎ (j ≡ i.index) → Member j (f q.index) ⊎ ((j ≡ i.index) × (q.index ≡ q.index))
      own (inl m) = inl m
      own (inr e) = inr (e, refl)

  stands : (r j : ℕ) → Member j (f r) → Member j (with_it r)
  stands r j = each (λ r xs. Member j (f r) → Member j xs) (push-member i.index j (f q.index)) (λ r n m. m) r

  come-found : (j : ℕ) → j < 64 → place_of come j < 64 → Member j (with_it (place_of come j))
  come-found j b p =
      elim (cases_eq j i.index) [
        | inl e ↦ subst (λ k. Member k (with_it (place_of come k))) (sym e) (subst (λ k. Member i.index (with_it k)) (sym here) mine)
        | inr n ↦ subst (λ k. Member j (with_it k)) (sym (come-place j n)) (stands (place_of s j) j (h.found j b (subst (λ k. k < 64) (come-place j n) p)))
      ]
    where
      mine : Member i.index (with_it q.index)
      mine = each (λ r xs. r ≡ q.index → Member i.index xs) (λ _. push-last i.index (f q.index)) (λ r n e. absurd (n e)) q.index refl

  come-holds : Holds come with_it
  unfolding Sized
  come-holds = record {
    members = come-sized.0;
    queues = come-sized.1;
    ring = each (λ r xs. r < 64 → Ring come r 64 xs) (λ _. own-ring) (λ r n b. other-ring r b n);
    member = λ r j m. elim (stood r j m) [ inl k ↦ h.member r j k | inr e ↦ omega (arith, e.0) ];
    queue = λ r j m. elim (stood r j m) [ inl k ↦ h.queue r j k | inr e ↦ omega (arith, e.1) ];
    place = λ r j m. elim (stood r j m) [ inl k ↦ come-place j (not-me r j (inr k)) ∙ h.place r j k | inr e ↦ ap (λ k. place_of come k) e.0 ∙ (here ∙ sym e.1) ];
    found = come-found;
    once = λ r j. each (λ r xs. times j xs ≤ 1) (once j) (λ r n. h.once r j) r;
  }
    where
      once : (j : ℕ) → times j (f q.index ++ (i.index ∷ [])) ≤ 1
      once j =
          elim (cases_eq j i.index) [
            | inl e ↦ rw (times-push i.index j (f q.index)) (rw (eq-eqb j i.index e) (omega (arith, subst (λ k. times k (f q.index) ≡ 0) (sym e) (times_none i.index (f q.index) (free q.index)))))
            | inr n ↦ rw (times-push i.index j (f q.index)) (rw (ne_eqb j i.index n) (omega (arith, h.once q.index j)))
          ]

  pub appended-holds : Holds (appended q i s) (put q.index (f q.index ++ (i.index ∷ [])) f)
  unfolding appended come shut behind with_it
  appended-holds = come-holds
