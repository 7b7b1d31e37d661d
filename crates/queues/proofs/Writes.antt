-- What each write leaves of the rings: where it wrote, and everywhere else.
use Rattle.std.proofs.Common.{◌≡◌, ℕ, ◌<◌, ◌≤◌, List, None, length, get_or, set, sym, refl, ap, ◌∙◌, inl, inr, arith, length-set}
use Rattle.std.proofs.lemmas.List.{get_or-set_same, get_or-set_other, get_or_default, set_past}
use Rattle.std.proofs.lemmas.Bool.{cases_eq, cases_lt, lt-ltb, le-ltb}
use Rattle.quantities.specs.declared.ids.Task.{Task}
use Rattle.quantities.specs.declared.ids.Queue.{Queue}
use Rattle.queues.specs.declared.packed.Packed.{Packed}
use Rattle.queues.specs.declared.fifo.Link.{Link}
use Rattle.queues.specs.declared.fifo.Ends.{Ends}
use Rattle.queues.specs.declared.fifo.Queues.{Queues}
use Rattle.queues.specs.Rings.{packed, link_of, ends_of, place_of, after, before, Linked}
use Rattle.queues.specs.Writes.{set_link, set_ends, set_after, set_before, set_place, joined}

-- a write leaves alone what it writes as it was
field-kept : {X : Type 0} {Y : Type 0} (g : X → Y) (xs : List X) (i j : ℕ) (x d : X) → g x ≡ g (get_or xs i d) → g (get_or (set xs i x) j d) ≡ g (get_or xs j d)
field-kept g xs i j x d e =
    elim (cases_lt i (length xs)) [
      | inl l ↦ elim (cases_eq j i) [
        | inl w ↦ ap (λ k. g (get_or (set xs i x) k d)) w ∙ (ap g (get_or-set_same xs i x d l) ∙ (e ∙ ap (λ k. g (get_or xs k d)) (sym w)))
        | inr n ↦ ap g (get_or-set_other xs i j x d n)
      ]
      | inr p ↦ ap (λ l. g (get_or l j d)) (set_past xs i x p)
    ]

-- What the code reads of an array has some default, which says nothing within the array.
module _ (s : Queues) (k i : ℕ) (e : k ≡ i) where
  pub link-read : (d : Link) → k < length s.links → get_or s.links k d ≡ link_of s i
  link-read d b = get_or_default s.links k d _ b ∙ ap (λ j. link_of s j) e

  pub ends-read : (d : Ends) → k < length s.ends → get_or s.ends k d ≡ ends_of s i
  ends-read d b = get_or_default s.ends k d _ b ∙ ap (λ j. ends_of s j) e

-- as many members and queues as there are
unfoldable pub Sized : Queues → Type 0
Sized s = (length s.links ≡ 64) × (length s.ends ≡ 64)

pub sized : (s : Queues) → length s.links ≡ 64 → length s.ends ≡ 64 → Sized s
unfolding Sized
sized s l e = (l, e)

-- two spots of rings: c in that of r, and a in that of q
abbrev pub Apart : (r c q a : ℕ) → Type 0
Apart r c q a = (c < 64 → c ≡ a → ⊥) × (64 ≤ c → 64 ≤ a → r ≡ q → ⊥)

module _ (s : Queues) where
  pub after-of-member : (q a : ℕ) → a < 64 → after s q a ≡ (link_of s a).next.number
  unfolding after
  after-of-member q a h = rw (lt-ltb a 64 h) refl

  pub after-of-end : (q a : ℕ) → 64 ≤ a → after s q a ≡ (ends_of s q).head.number
  unfolding after
  after-of-end q a h = rw (le-ltb a 64 h) refl

  pub before-of-member : (q a : ℕ) → a < 64 → before s q a ≡ (link_of s a).prev.number
  unfolding before
  before-of-member q a h = rw (lt-ltb a 64 h) refl

  pub before-of-end : (q a : ℕ) → 64 ≤ a → before s q a ≡ (ends_of s q).tail.number
  unfolding before
  before-of-end q a h = rw (le-ltb a 64 h) refl

  -- two spots that are followed by different ones are not one spot
  pub apart-after : (r c q a : ℕ) → (after s r c ≡ after s q a → ⊥) → Apart r c q a
  apart-after r c q a n = (
    λ l e. n (after-of-member r c l ∙ (sym (after-of-member q c l) ∙ ap (λ k. after s q k) e)),
    λ l m e. n (after-of-end r c l ∙ (ap (λ k. (ends_of s k).head.number) e ∙ sym (after-of-end q a m))),
  )

  pub apart-before : (r c q a : ℕ) → (before s r c ≡ before s q a → ⊥) → Apart r c q a
  apart-before r c q a n = (
    λ l e. n (before-of-member r c l ∙ (sym (before-of-member q c l) ∙ ap (λ k. before s q k) e)),
    λ l m e. n (before-of-end r c l ∙ (ap (λ k. (ends_of s k).tail.number) e ∙ sym (before-of-end q a m))),
  )

-- a write of a member's link or of a queue's ends, of which one field changes
module _ (s : Queues) (r c : ℕ) where
  link-after : (i : ℕ) (l : Link) → l.next.number ≡ (link_of s i).next.number → after (set_link i l s) r c ≡ after s r c
  unfolding after
  link-after i l e = rw (field-kept (λ (x : Link). x.next.number) s.links i c l (record { next = packed None; prev = packed None; at = packed None }) e) refl

  link-before : (i : ℕ) (l : Link) → l.prev.number ≡ (link_of s i).prev.number → before (set_link i l s) r c ≡ before s r c
  unfolding before
  link-before i l e = rw (field-kept (λ (x : Link). x.prev.number) s.links i c l (record { next = packed None; prev = packed None; at = packed None }) e) refl

  link-place : (i : ℕ) (l : Link) → l.at.number ≡ (link_of s i).at.number → place_of (set_link i l s) c ≡ place_of s c
  link-place i l e = field-kept (λ (x : Link). x.at.number) s.links i c l (record { next = packed None; prev = packed None; at = packed None }) e

  ends-after : (q : ℕ) (l : Ends) → l.head.number ≡ (ends_of s q).head.number → after (set_ends q l s) r c ≡ after s r c
  unfolding after
  ends-after q l e = rw (field-kept (λ (x : Ends). x.head.number) s.ends q r l (record { head = packed None; tail = packed None }) e) refl

  ends-before : (q : ℕ) (l : Ends) → l.tail.number ≡ (ends_of s q).tail.number → before (set_ends q l s) r c ≡ before s r c
  unfolding before
  ends-before q l e = rw (field-kept (λ (x : Ends). x.tail.number) s.ends q r l (record { head = packed None; tail = packed None }) e) refl

module _ (s : Queues) (q a : ℕ) (b : Packed Task) where
  pub after-member : a < 64 → set_after q a b s ≡ set_link a (record { next = b; prev = (link_of s a).prev; at = (link_of s a).at }) s
  unfolding set_after
  after-member h = rw (lt-ltb a 64 h) refl

  pub after-end : 64 ≤ a → set_after q a b s ≡ set_ends q (record { head = b; tail = (ends_of s q).tail }) s
  unfolding set_after
  after-end h = rw (le-ltb a 64 h) refl

  after-here : Sized s → q < 64 → after (set_after q a b s) q a ≡ b.number
  unfolding Sized
  after-here z h =
      elim (cases_lt a 64) [
        | inl l ↦ rw (after-member l) (after-of-member _ q a l ∙ ap (λ (x : Link). x.next.number) (get_or-set_same s.links a _ _ (omega (arith, z.0))))
        | inr m ↦ rw (after-end m) (after-of-end _ q a m ∙ ap (λ (x : Ends). x.head.number) (get_or-set_same s.ends q _ _ (omega (arith, z.1))))
      ]

  after-else : (r c : ℕ) → Apart r c q a → after (set_after q a b s) r c ≡ after s r c
  after-else r c p =
      elim (cases_lt a 64) [
        | inl l ↦ elim (cases_lt c 64) [
          | inl k ↦ rw (after-member l) (after-of-member _ r c k ∙ (ap (λ (x : Link). x.next.number) (get_or-set_other s.links a c _ _ (p.0 k)) ∙ sym (after-of-member s r c k)))
          | inr k ↦ rw (after-member l) (after-of-end _ r c k ∙ sym (after-of-end s r c k))
        ]
        | inr m ↦ elim (cases_lt c 64) [
          | inl k ↦ rw (after-end m) (after-of-member _ r c k ∙ sym (after-of-member s r c k))
          | inr k ↦ rw (after-end m) (after-of-end _ r c k ∙ (ap (λ (x : Ends). x.head.number) (get_or-set_other s.ends q r _ _ (p.1 k m)) ∙ sym (after-of-end s r c k)))
        ]
      ]

  after-leaves-before : (r c : ℕ) → before (set_after q a b s) r c ≡ before s r c
  after-leaves-before r c =
      elim (cases_lt a 64) [ inl l ↦ rw (after-member l) (link-before s r c a _ refl) | inr m ↦ rw (after-end m) (ends-before s r c q _ refl) ]

  after-leaves-place : (j : ℕ) → place_of (set_after q a b s) j ≡ place_of s j
  after-leaves-place j = elim (cases_lt a 64) [ inl l ↦ rw (after-member l) (link-place s q j a _ refl) | inr m ↦ rw (after-end m) refl ]

  after-sized : Sized s → Sized (set_after q a b s)
  unfolding Sized
  after-sized z =
      elim (cases_lt a 64) [
        | inl l ↦ rw (after-member l) (length-set s.links a _ ∙ z.0, z.1)
        | inr m ↦ rw (after-end m) (z.0, length-set s.ends q _ ∙ z.1)
      ]

module _ (s : Queues) (q b : ℕ) (a : Packed Task) where
  pub before-member : b < 64 → set_before q b a s ≡ set_link b (record { next = (link_of s b).next; prev = a; at = (link_of s b).at }) s
  unfolding set_before
  before-member h = rw (lt-ltb b 64 h) refl

  pub before-end : 64 ≤ b → set_before q b a s ≡ set_ends q (record { head = (ends_of s q).head; tail = a }) s
  unfolding set_before
  before-end h = rw (le-ltb b 64 h) refl

  before_here : Sized s → q < 64 → before (set_before q b a s) q b ≡ a.number
  unfolding Sized
  before_here z h =
      elim (cases_lt b 64) [
        | inl l ↦ rw (before-member l) (before-of-member _ q b l ∙ ap (λ (x : Link). x.prev.number) (get_or-set_same s.links b _ _ (omega (arith, z.0))))
        | inr m ↦ rw (before-end m) (before-of-end _ q b m ∙ ap (λ (x : Ends). x.tail.number) (get_or-set_same s.ends q _ _ (omega (arith, z.1))))
      ]

  before-else : (r c : ℕ) → Apart r c q b → before (set_before q b a s) r c ≡ before s r c
  before-else r c p =
      elim (cases_lt b 64) [
        | inl l ↦ elim (cases_lt c 64) [
          | inl k ↦ rw (before-member l) (before-of-member _ r c k ∙ (ap (λ (x : Link). x.prev.number) (get_or-set_other s.links b c _ _ (p.0 k)) ∙ sym (before-of-member s r c k)))
          | inr k ↦ rw (before-member l) (before-of-end _ r c k ∙ sym (before-of-end s r c k))
        ]
        | inr m ↦ elim (cases_lt c 64) [
          | inl k ↦ rw (before-end m) (before-of-member _ r c k ∙ sym (before-of-member s r c k))
          | inr k ↦ rw (before-end m) (before-of-end _ r c k ∙ (ap (λ (x : Ends). x.tail.number) (get_or-set_other s.ends q r _ _ (p.1 k m)) ∙ sym (before-of-end s r c k)))
        ]
      ]

  before-leaves-after : (r c : ℕ) → after (set_before q b a s) r c ≡ after s r c
  before-leaves-after r c =
      elim (cases_lt b 64) [ inl l ↦ rw (before-member l) (link-after s r c b _ refl) | inr m ↦ rw (before-end m) (ends-after s r c q _ refl) ]

  before-leaves-place : (j : ℕ) → place_of (set_before q b a s) j ≡ place_of s j
  before-leaves-place j = elim (cases_lt b 64) [ inl l ↦ rw (before-member l) (link-place s q j b _ refl) | inr m ↦ rw (before-end m) refl ]

  before-sized : Sized s → Sized (set_before q b a s)
  unfolding Sized
  before-sized z =
      elim (cases_lt b 64) [
        | inl l ↦ rw (before-member l) (length-set s.links b _ ∙ z.0, z.1)
        | inr m ↦ rw (before-end m) (z.0, length-set s.ends q _ ∙ z.1)
      ]

-- What a join of a and b in the ring of q makes of s.
pub record Joins (s t : Queues) (q a b : ℕ) : Type 0 where
  pub size : Sized t
  pub there : Linked t q a b
  pub after_kept : (r c : ℕ) → Apart r c q a → after t r c ≡ after s r c
  pub before-kept : (r c : ℕ) → Apart r c q b → before t r c ≡ before s r c
  pub place_kept : (j : ℕ) → place_of t j ≡ place_of s j

pub joins : (s : Queues) (q : ℕ) (a b : Packed Task) → Sized s → q < 64 → Joins s (joined q a b s) q a.number b.number
unfolding joined
joins s q a b z h = record {
  size = before-sized half q b.number a half_sized;
  there = (before-leaves-after half q b.number a q a.number ∙ after-here s q a.number b z h, before_here half q b.number a half_sized h);
  after_kept = λ r c p. before-leaves-after half q b.number a r c ∙ after-else s q a.number b r c p;
  before-kept = λ r c p. before-else half q b.number a r c p ∙ after-leaves-before s q a.number b r c;
  place_kept = λ j. before-leaves-place half q b.number a j ∙ after-leaves-place s q a.number b j;
}
  where
    half : Queues
    half = set_after q a.number b s

    half_sized : Sized half
    half_sized = after-sized s q a.number b z

-- a member's place says nothing of the rings
module _ (s : Queues) (i : ℕ) (q : Packed Queue) where
  pub place-leaves : (r a b : ℕ) → Linked s r a b → Linked (set_place i q s) r a b
  unfolding set_place
  place-leaves r a b l = (link-after s r a i _ refl ∙ l.0, link-before s r b i _ refl ∙ l.1)

  pub place_here : Sized s → i < 64 → place_of (set_place i q s) i ≡ q.number
  unfolding set_place Sized
  place_here z h = ap (λ (x : Link). x.at.number) (get_or-set_same s.links i _ _ (omega (arith, z.0)))

  pub place-else : (j : ℕ) → (j ≡ i → ⊥) → place_of (set_place i q s) j ≡ place_of s j
  unfolding set_place
  place-else j n = ap (λ (x : Link). x.at.number) (get_or-set_other s.links i j _ _ n)

  pub place-sized : Sized s → Sized (set_place i q s)
  unfolding set_place Sized
  place-sized z = (length-set s.links i _ ∙ z.0, z.1)
