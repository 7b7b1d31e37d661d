-- What the calls answer, read off the links.
use Rattle.std.proofs.Common.{◌≡◌, ℕ, ◌<◌, List, [], ◌∷◌, ◌++◌, replicate, Some, None, Option, sym, refl, ap, ◌∙◌, subst, inl, inr, arith}
use Rattle.std.specs.Option.{option_and}
use Rattle.std.proofs.lemmas.List.{get_or-replicate}
use Rattle.quantities.specs.Ids.{TaskId, QueueId}
use Rattle.quantities.specs.declared.ids.Task.{Task}
use Rattle.quantities.specs.declared.ids.Queue.{Queue}
use Rattle.queues.specs.declared.packed.Packed.{Packed}
use Rattle.queues.specs.declared.fifo.Link.{Link}
use Rattle.queues.specs.declared.fifo.Ends.{Ends}
use Rattle.queues.specs.declared.fifo.Queues.{Queues}
use Rattle.queues.specs.Members.{Member}
use Rattle.queues.specs.Rings.{Holds, Ring, spot, packed, after, before, link_of, ends_of, place_of}
use Rattle.queues.specs.Outcomes.{First, StandsIn}
use Rattle.queues.proofs.Writes.{after-of-end, after-of-member}
use Rattle.queues.proofs.Chains.{ring-behind}

-- whoever comes after a in the ring is the first of those behind it, or nobody
module _ (s : Queues) (q : ℕ) where
  first-told : (a : ℕ) (xs : List ℕ) (r : Option TaskId) → Ring s q a xs → ((j : ℕ) → Member j xs → j < 64) → after s q a ≡ spot r → First xs r
  first-told a [] None ring below told = refl
  first-told a [] (Some t) ring below told = let z : ⊥ = omega (arith, ring.0, told, t.within) in absurd z
  first-told a (x ∷ xs) None ring below told = let z : ⊥ = omega (arith, ring.0.0, told, below x (inl refl)) in absurd z
  first-told a (x ∷ xs) (Some t) ring below told = ap (λ k. k ∷ xs) (sym ring.0.0 ∙ told)

-- who has a place has behind it whom its link says
and-placed : (at : Option QueueId) (r : Option TaskId) → spot at < 64 → option_and at r ≡ r
and-placed None r b = absurd (omega (arith, b))
and-placed (Some q) r b = refl

module _ {s : Queues} {f : ℕ → List ℕ} (h : Holds s f) where
  pub front-told : (q : ℕ) (e : Ends) (r : Option TaskId) → q < 64 → e ≡ ends_of s q → packed r ≡ e.head → First (f q) r
  front-told q e r b w told = first-told s q 64 (f q) r (h.ring q b) (h.member q) (after-of-end s q 64 (omega arith) ∙ (ap (λ (x : Ends). x.head.number) (sym w) ∙ ap (λ (p : Packed Task). p.number) (sym told)))

  member_of : (q i : ℕ) (xs ys : List ℕ) → f q ≡ xs ++ (i ∷ ys) → Member i (f q)
  member_of q i xs ys e = subst (λ l. Member i l) (sym e) (among xs)
    where
      among : (zs : List ℕ) → Member i (zs ++ (i ∷ ys))
      among [] = inl refl
      among (z ∷ zs) = inr (among zs)

  pub next-told : (q i : ℕ) (xs ys : List ℕ) (l : Link) (at : Option QueueId) (next r : Option TaskId) → f q ≡ xs ++ (i ∷ ys) → l ≡ link_of s i → packed at ≡ l.at → packed next ≡ l.next → r ≡ option_and at next → First ys r
  next-told q i xs ys l at next r e w there behind told =
      let m = member_of q i xs ys e in
      let placed : spot at < 64 = omega (arith, ap (λ (p : Packed Queue). p.number) there, ap (λ (x : Link). x.at.number) w, h.place q i m, h.queue q i m) in
      let first : First ys next = first-told s q i ys next (ring-behind s q i 64 xs ys (subst (λ z. Ring s q 64 z) e (h.ring q (h.queue q i m)))) (λ j k. h.member q j (subst (λ z. Member j z) (sym e) (later j xs k))) (after-of-member s q i (h.member q i m) ∙ (ap (λ (x : Link). x.next.number) (sym w) ∙ ap (λ (p : Packed Task). p.number) (sym behind))) in
      subst (First ys) (sym (told ∙ and-placed at next placed)) first
    where
      later : (j : ℕ) (zs : List ℕ) → Member j ys → Member j (zs ++ (i ∷ ys))
      later j [] l = inr l
      later j (z ∷ zs) l = inr (later j zs l)

  -- who has no place stands in no queue, and who has one stands in that queue
  pub queue-told : (i : ℕ) (l : Link) (r : Option QueueId) → i < 64 → l ≡ link_of s i → packed r ≡ l.at → StandsIn f i r
  queue-told i l r b w there = told r (ap (λ (p : Packed Queue). p.number) there ∙ ap (λ (x : Link). x.at.number) w)
    where
      told : (r : Option QueueId) → spot r ≡ place_of s i → StandsIn f i r
      told None e = λ q m. omega (arith, e, h.place q i m, h.queue q i m)
      told (Some q) e = (subst (λ p. Member i (f p)) (sym e) (h.found i b (omega (arith, e, q.within))), λ p m. sym (h.place p i m) ∙ sym e)

-- a state in which nobody has a place, and no queue has ends
pub empty_holds : (l : Link) (e : Ends) → l.at ≡ packed None → e.head ≡ packed None → e.tail ≡ packed None → Holds (record { links = replicate 64 l; ends = replicate 64 e }) (λ _. [])
unfolding after before
empty_holds l e at head tail = record {
  members = refl;
  queues = refl;
  ring = λ q b. (ap (λ (x : Ends). x.head.number) (get_or-replicate 64 q e _ b) ∙ ap (λ (p : Packed Task). p.number) head, ap (λ (x : Ends). x.tail.number) (get_or-replicate 64 q e _ b) ∙ ap (λ (p : Packed Task). p.number) tail);
  member = λ q i m. absurd m;
  queue = λ q i m. absurd m;
  place = λ q i m. absurd m;
  found = λ i b p. let z : ⊥ = omega (arith, ap (λ (p : Packed Queue). p.number) at, ap (λ (x : Link). x.at.number) (get_or-replicate 64 i l (record { next = packed None; prev = packed None; at = packed None }) b)) in absurd z;
  once = λ q i. omega arith;
}
