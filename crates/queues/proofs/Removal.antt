-- A state from which a member is unlinked stands for the queues without it.
use Rattle.std.proofs.Common.{◌≡◌, ℕ, ◌<◌, ◌⊎◌, List, None, sym, ap, ◌∙◌, subst, inl, inr, arith}
use Rattle.std.proofs.lemmas.Bool.{cases_eq}
use Rattle.queues.specs.declared.fifo.Queues.{Queues}
use Rattle.queues.specs.Members.{Member, without}
use Rattle.queues.specs.Rings.{Holds, Linked, Ring, packed, link_of, after, before, place_of}
use Rattle.queues.specs.Writes.{set_place, joined, unlinked}
use Rattle.queues.proofs.Lists.{without-none, member-without, not-without, without-member, times-without}
use Rattle.queues.proofs.Writes.{Sized, Joins, joins, after-of-member, before-of-member, apart-after, apart-before, place-leaves, place_here, place-else, place-sized, sized}
use Rattle.queues.proofs.Chains.{ring-around, ring-kept, ring-without}
use Rattle.queues.proofs.Standing.{in_one}

module _ (s : Queues) (f : ℕ → List ℕ) (q i : ℕ) (h : Holds s f) (m : Member i (f q)) where
  shut : Queues
  shut = joined q (link_of s i).prev (link_of s i).next s

  left : Queues
  left = set_place i (packed None) shut

  size : Sized s
  size = sized s h.members h.queues

  shuts : Joins s shut q (before s q i) (after s q i)
  unfolding shut
  shuts =
      let below = h.member q i m in
      subst (λ k. Joins s shut q k (after s q i)) (sym (before-of-member s q i below)) (subst (λ k. Joins s shut q (link_of s i).prev.number k) (sym (after-of-member s q i below)) (joins s q (link_of s i).prev (link_of s i).next size (h.queue q i m)))

  neighbours : Linked s q (before s q i) i × Linked s q i (after s q i)
  neighbours = ring-around s q i 64 (f q) (h.ring q (h.queue q i m)) m

  -- a link from and to others is another link than those of i
  keeps : (r c d : ℕ) → (c ≡ i → ⊥) → (d ≡ i → ⊥) → Linked s r c d → Linked left r c d
  unfolding left
  keeps r c d nc nd l =
      place-leaves shut i (packed None) r c d (
        shuts.after_kept r c (apart-after s r c q (before s q i) (λ e. nd (sym l.0 ∙ (e ∙ neighbours.0.0)))) ∙ l.0,
        shuts.before-kept r d (apart-before s r d q (after s q i) (λ e. nc (sym l.1 ∙ (e ∙ neighbours.1.1)))) ∙ l.1,
      )

  closed : Linked left q (before s q i) (after s q i)
  unfolding left
  closed = place-leaves shut i (packed None) q (before s q i) (after s q i) shuts.there

  not_end : 64 ≡ i → ⊥
  not_end e = omega (arith, h.member q i m)

  others : (r : ℕ) → (r ≡ q → ⊥) → Member i (f r) → ⊥
  others r n k = n (in_one h i r q k m)

  other-ring : (r : ℕ) → r < 64 → (r ≡ q → ⊥) → Ring left r 64 (f r)
  other-ring r b n = ring-kept s left r 64 (f r) (λ c d k l. keeps r c d (λ e. from c k e) (λ e. from d l e)) (h.ring r b)
    where
      from : (c : ℕ) → (c ≡ 64) ⊎ Member c (f r) → c ≡ i → ⊥
      from c (inl e) w = not_end (sym e ∙ w)
      from c (inr k) w = others r n (subst (λ j. Member j (f r)) w k)

  left-ring : (r : ℕ) → r < 64 → Ring left r 64 (without i (f r))
  left-ring r b =
      elim (cases_eq r q) [
        | inl e ↦ subst (λ k. Ring left k 64 (without i (f k))) (sym e) (ring-without s left q i not_end closed (keeps q) 64 (f q) not_end m (h.once q i) (h.ring q (h.queue q i m)))
        | inr n ↦ subst (λ l. Ring left r 64 l) (sym (without-none i (f r) (others r n))) (other-ring r b n)
      ]

  left-place : (j : ℕ) → (j ≡ i → ⊥) → place_of left j ≡ place_of s j
  unfolding left
  left-place j n = place-else shut i (packed None) j n ∙ shuts.place_kept j

  nowhere : place_of left i ≡ 64
  unfolding left
  nowhere = place_here shut i (packed None) shuts.size (h.member q i m)

  left-found : (j : ℕ) → j < 64 → place_of left j < 64 → Member j (without i (f (place_of left j)))
  left-found j b p =
      elim (cases_eq j i) [
        | inl e ↦ absurd (gone e)
        | inr n ↦ without-member i j _ n (subst (λ k. Member j (f k)) (sym (left-place j n)) (h.found j b (subst (λ k. k < 64) (left-place j n) p)))
      ]
    where
      gone : j ≡ i → ⊥
      gone e = omega (arith, nowhere, ap (λ k. place_of left k) e)

  left-sized : Sized left
  unfolding left
  left-sized = place-sized shut i (packed None) shuts.size

  left-holds : Holds left (λ p. without i (f p))
  unfolding Sized
  left-holds = record {
    members = left-sized.0;
    queues = left-sized.1;
    ring = left-ring;
    member = λ r j k. h.member r j (member-without i j (f r) k);
    queue = λ r j k. h.queue r j (member-without i j (f r) k);
    place = λ r j k. left-place j (λ e. not-without i (f r) (subst (λ x. Member x (without i (f r))) e k)) ∙ h.place r j (member-without i j (f r) k);
    found = left-found;
    once = λ r j. omega (arith, times-without i j (f r), h.once r j);
  }

  pub unlinked-holds : Holds (unlinked q i s) (λ p. without i (f p))
  unfolding unlinked left shut
  unlinked-holds = left-holds
