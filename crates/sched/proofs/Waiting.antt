-- Who waits for a lock stands in its row: what the queues tell of waiting, in a house that can have come about.
use Rattle.std.proofs.Common.{◌≡◌, ℕ, zero, suc, ◌+◌, ◌-◌, ◌<◌, not, eqb, List, [], ◌∷◌, is_some, Some, None, Option, sym, refl, ap, ◌∙◌, subst, arith, MatchOption}
use Rattle.std.proofs.lemmas.Bool.{eq-eqb, ne_eqb}
use Rattle.quantities.specs.Ids.{TaskId}
use Rattle.queues.specs.Members.{Member, Free, rest}
use Rattle.queues.specs.Outcomes.{First}
use Rattle.quantities.specs.Ids.{QueueId}
use Rattle.sched.specs.House.{House, first_of, rest_of, runner}
use Rattle.sched.specs.Promise.{Comes}
use Rattle.sched.specs.Stores.{owner_of}
use Rattle.sched.proofs.Keep.{member-times, times-member}
use Rattle.sched.proofs.model.Stands.{times-one, waits_in}
use Rattle.sched.proofs.model.Runner.{runner-next}
use Rattle.sched.proofs.model.Rings.{comes-stands, waiter-is-task}

module _ (h : House) (c : Comes h) (i : ℕ) where
  -- whoever stands in m's row waits for m
  pub member-waits : (m : ℕ) → Member i (h.row m) → h.waits i ≡ suc m
  member-waits m k = waits_in h.place h.waits h.owner h.row (comes-stands c) i m (member-times i (h.row m) k)

  pub waits-member : (m : ℕ) → h.waits i ≡ suc m → Member i (h.row m)
  waits-member m e =
      times-member i (h.row m) (subst (λ n. 0 < n) (sym (times-one h.place h.waits h.owner h.row (comes-stands c) i m e)) (omega arith))

  -- who stands in no row waits for nothing
  pub free-waits : Free h.row i → h.waits i ≡ 0
  free-waits free = go (h.waits i) refl
    where
      go : (n : ℕ) → h.waits i ≡ n → h.waits i ≡ 0
      go zero e = e
      go (suc m) e = absurd (free m (waits-member m e))

  pub waits-free : h.waits i ≡ 0 → Free h.row i
  waits-free e m k = omega (arith, e, member-waits m k)

  abbrev Queue : Option QueueId → Type 0
  Queue q = MatchOption q (Free h.row i) (λ x. Member i (h.row x.index) × ((p : ℕ) → Member i (h.row p) → p ≡ x.index))

  -- the queue in which it stands tells whether it waits
  pub waits-told : (q : Option QueueId) → Queue q → is_some q ≡ not (eqb (h.waits i) 0)
  waits-told None free = rw (eq-eqb (h.waits i) 0 (free-waits free)) refl
  waits-told (Some x) told = rw (ne_eqb (h.waits i) 0 (λ e. waits-free e x.index told.0)) refl

  -- and, with the owner of that queue's lock, for whom
  pub owner-told : (m : ℕ) (r : Option TaskId) → Member i (h.row m) → owner_of r ≡ h.owner m → MatchOption r (h.waits i ≡ 0) (λ j. (h.waits i ≡ 0 → ⊥) × (h.owner (h.waits i - 1) ≡ suc j.index))
  unfolding owner_of
  owner-told m None k e = absurd ((waiter-is-task h c i m (member-waits m k)).2 (sym e))
  owner-told m (Some j) k e =
      let w = member-waits m k in
      let at : h.waits i - 1 ≡ m = omega arith in
      (λ z. omega (arith, z, w), ap h.owner at ∙ sym e)

-- one step along the chain, as the walk counts it
pub runner-steps : (h : House) (k i j : ℕ) → k < 64 → (h.waits i ≡ 0 → ⊥) → h.owner (h.waits i - 1) ≡ suc j → runner (64 - k) h i ≡ runner (64 - (k + 1)) h j
runner-steps h k i j l n o =
    let w : h.waits i ≡ suc (h.waits i - 1) = omega (arith, n) in
    let f : 64 - k ≡ suc (64 - (k + 1)) = omega arith in
    let at : h.owner (h.waits i - 1) - 1 ≡ j = omega arith in
    ap (λ x. runner x h i) f ∙ (runner-next h (64 - (k + 1)) i (h.waits i - 1) w ∙ ap (runner (64 - (k + 1)) h) at)

-- THE FIRST OF A ROW
pub first-told : (xs : List ℕ) (r : Option TaskId) → First xs r → owner_of r ≡ first_of xs
unfolding owner_of first_of
first-told xs None e = ap first_of (sym e)
first-told xs (Some t) e = ap first_of (sym e)

pub rest-told : (xs : List ℕ) → rest xs ≡ rest_of xs
unfolding rest_of
rest-told [] = refl
rest-told (x ∷ xs) = refl

-- THE RING TEST, asked of who runs for the owner
pub ring-told : (h : House) (m i o r : ℕ) → suc o ≡ h.owner m → r ≡ runner 64 h o → eqb (runner 64 h (h.owner m - 1)) i ≡ eqb r i
ring-told h m i o r owns runs = let at : h.owner m - 1 ≡ o = omega arith in cc
