-- A tick begins place by place: what is kept of fair tasks below k is as the tick begins with it, from k on as the last left it.
use Rattle.std.proofs.Common.{◌≡◌, ℕ, ◌+◌, ◌<◌, ◌≤◌, Bool, true, false, not, ◌&&◌, ltb, ◌⊎◌, List, get_or, set, Some, None, Option, sym, refl, ap, ◌∙◌, subst, inl, inr, ⊎_elim, true≢false, zero-le, le_refl, arith, MatchOption}
use Rattle.std.proofs.lemmas.List.{get_or-set_same, get_or-set_other, get_or_past}
use Rattle.std.proofs.lemmas.Bool.{cases_eq, cases_lt, cases_Bool, le-ltb, and_from, and_left, and_right, not_from_true, not_from_false}
use Rattle.quantities.specs.Ids.{TaskId}
use Rattle.quantities.specs.declared.promises.Weight.{Weight}
use Rattle.virtual_time.specs.declared.position.Position.{Position}
use Rattle.virtual_time.specs.Positions.{capped, joined_far, joined_rest}
use Rattle.virtual_time.proofs.Order.{behind-is-transitive, behind-is-irreflexive, not-behind-is-transitive}
use Rattle.sched.specs.declared.fair.Fair.{Fair}
use Rattle.sched.specs.declared.tasks.Slot.{Slot}
use Rattle.sched.specs.declared.tasks.Slot.TheVariants as slot
use Rattle.sched.specs.House.{House, less_far, weight_of, wants, fair_wants, windowed, joins, opened, nearer, least_far, some', first', moves, ticked}
use Rattle.sched.specs.Stores.{Reads, place_of, Stands, Exact, FairlyOf}
use Rattle.sched.specs.Begun.{Wanting, up_to, LeastBelow, Candidate, StandsAt, Begins, Begun}
use Rattle.sched.proofs.Upto.{upto-below, upto_from, upto-set}
use Rattle.sched.proofs.Bounded.{some-from, none_from, first-unique}
use Rattle.sched.proofs.positions.Joining.{exact-less, joined-behind, joined-stays}
use Rattle.sched.proofs.positions.Standing.{stand-set}
use Rattle.sched.proofs.model.Positions.{PositionsOf, fair-heavy, wants-joined}
use Rattle.sched.proofs.model.Ticks.{runner-opened}

-- a further place changes no other
up-to-other : {Y : Type 0} (f g : ℕ → Y) (k i : ℕ) → (i ≡ k → ⊥) → up_to (k + 1) f g i ≡ up_to k f g i
up-to-other f g k i n =
    ⊎_elim (λ l. upto-below f g (k + 1) i (omega arith) ∙ sym (upto-below f g k i l)) (λ l. upto_from f g (k + 1) i (omega arith) ∙ sym (upto_from f g k i l)) (cases_lt i k)

-- THE LEAST FAR so far. A house in which a tick has begun is any, as far as these go.
module _ (h : House) where
  -- one more place, at which nobody fair wants
  pub candidate-over : (k : ℕ) (least : Option TaskId) → fair_wants h k ≡ false → Candidate h k least → Candidate h (k + 1) least
  candidate-over k None no' none = λ j l. ⊎_elim (λ e. subst (λ x. fair_wants h x ≡ false) (sym e) no') (λ n. none j (omega arith)) (cases_eq j k)
  candidate-over k (Some i) no' at =
      record {
        below = omega (arith, at.below);
        wants' = at.wants';
        least = λ j l w. at.least j (⊎_elim (λ e. absurd (true≢false (sym w ∙ subst (λ x. fair_wants h x ≡ false) (sym e) no'))) (λ n. omega arith) (cases_eq j k)) w;
        first' = at.first';
      }

  -- one that wants and isn't nearer
  pub candidate-stays : (k : ℕ) (least : Option TaskId) (r : Bool) → MatchOption least (r ≡ true) (λ i. r ≡ nearer h k i.index) → r ≡ false → Candidate h k least → Candidate h (k + 1) least
  candidate-stays k None r e far none = absurd (true≢false (sym e ∙ far))
  candidate-stays k (Some i) r e far at =
      record {
        below = omega (arith, at.below);
        wants' = at.wants';
        least = λ j l w. ⊎_elim (λ same. subst (λ x. nearer h x i.index ≡ false) (sym same) (sym e ∙ far)) (λ n. at.least j (omega arith) w) (cases_eq j k);
        first' = at.first';
      }

  -- one that wants and is nearer
  pub candidate-nearer : (i : TaskId) (least : Option TaskId) (r : Bool) → fair_wants h i.index ≡ true → MatchOption least (r ≡ true) (λ j. r ≡ nearer h i.index j.index) → r ≡ true → Candidate h i.index least → Candidate h (i.index + 1) (Some i)
  candidate-nearer i None r wants e near none =
      record {
        below = omega arith;
        wants' = wants;
        least = λ j l w. ⊎_elim (λ same. subst (λ x. nearer h x i.index ≡ false) (sym same) (behind-is-irreflexive (h.far i.index) (h.rest i.index) (weight_of (h.place i.index)))) (λ n. absurd (true≢false (sym w ∙ none j (omega arith)))) (cases_eq j i.index);
        first' = λ j l w. absurd (true≢false (sym w ∙ none j l));
      }
  candidate-nearer i (Some t) r wants e near at =
      record { below = omega arith; wants' = wants; least = λ j l w. ⊎_elim (λ same. none j same) (λ n. nobody j (omega arith) w) (cases_eq j i.index); first' = λ j l w. all j l w }
    where
      nearest : nearer h i.index t.index ≡ true
      nearest = sym e ∙ near

      none : (j : ℕ) → j ≡ i.index → nearer h j i.index ≡ false
      none j same =
          subst (λ x. nearer h x i.index ≡ false) (sym same) (behind-is-irreflexive (h.far i.index) (h.rest i.index) (weight_of (h.place i.index)))

      -- one nearer still would be nearer than the last candidate
      nobody : (j : ℕ) → j < i.index → fair_wants h j ≡ true → nearer h j i.index ≡ false
      nobody j l w =
          ⊎_elim
          (λ b. absurd (true≢false (sym (behind-is-transitive (h.far j) (h.rest j) (weight_of (h.place j)) (h.far i.index) (h.rest i.index) (weight_of (h.place i.index)) (h.far t.index) (h.rest t.index) (weight_of (h.place t.index)) b nearest) ∙ at.least j l w)))
          (λ n. n) (cases_Bool (nearer h j i.index))

      -- one as near would be nearer than the last candidate too
      all : (j : ℕ) → j < i.index → fair_wants h j ≡ true → nearer h i.index j ≡ true
      all j l w =
          ⊎_elim (λ b. b)
          (λ n. absurd (true≢false (sym nearest ∙ not-behind-is-transitive (h.far i.index) (h.rest i.index) (weight_of (h.place i.index)) (h.far j) (h.rest j) (weight_of (h.place j)) (h.far t.index) (h.rest t.index) (weight_of (h.place t.index)) (fair-heavy h j w) n (at.least j l w))))
          (cases_Bool (nearer h i.index j))

  -- THE LEAST FAR OF ALL
  pub least-of-all : (i : ℕ) → LeastBelow h 64 i → least_far h i ≡ true
  least-of-all i at =
      and_from (fair_wants h i) (not (some' 64 (λ (j : ℕ). fair_wants h j && nearer h j i))) at.wants'
      (not_from_false (some' 64 (λ (j : ℕ). fair_wants h j && nearer h j i)) (none_from (λ (j : ℕ). fair_wants h j && nearer h j i) 64
      (λ j l. ⊎_elim (λ w. and_right (fair_wants h j) (nearer h j i) (at.least j l w)) (λ n. and_left (fair_wants h j) (nearer h j i) n) (cases_Bool (fair_wants h j)))))

  pub first-of-all : (i : ℕ) → LeastBelow h 64 i → first' h ≡ i
  first-of-all i at = first-unique (least_far h) 64 i at.below (least-of-all i at) before
    where
      before : (j : ℕ) → j < i → least_far h j ≡ false
      before j l =
          ⊎_elim
          (λ w. and_right (fair_wants h j) (not (some' 64 (λ (k : ℕ). fair_wants h k && nearer h k j)))
          (not_from_true (some' 64 (λ (k : ℕ). fair_wants h k && nearer h k j)) (some-from (λ (k : ℕ). fair_wants h k && nearer h k j) 64 i at.below (and_from (fair_wants h i) (nearer h i j) at.wants' (at.first' j l w)))))
          (λ n. and_left (fair_wants h j) (not (some' 64 (λ (k : ℕ). fair_wants h k && nearer h k j))) n) (cases_Bool (fair_wants h j))

  -- the mark moves if it is behind the least far
  pub moves-to : (i : ℕ) → LeastBelow h 64 i → moves h ≡ less_far h.mark_far h.mark_rest h.mark_over (h.far i) (h.rest i) (weight_of (h.place i))
  moves-to i at = rw (some-from (least_far h) 64 i at.below (least-of-all i at), first-of-all i at) refl

  pub stays_put : ((j : ℕ) → j < 64 → fair_wants h j ≡ false) → moves h ≡ false
  stays_put none =
      rw (none_from (least_far h) 64 (λ j l. and_left (fair_wants h j) (not (some' 64 (λ (k : ℕ). fair_wants h k && nearer h k j))) (none j l))) refl

  pub candidate-least : (least : Option TaskId) → Candidate h 64 least → MatchOption least (some' 64 (fair_wants h) ≡ false) (λ i. least_far h i.index ≡ true)
  candidate-least None none = none_from (fair_wants h) 64 none
  candidate-least (Some i) at = least-of-all i.index at

-- ONE PLACE. Who wants and comes back joins; who doesn't want, doesn't.
joins-wanting : (h : House) (i : ℕ) → fair_wants (opened h) i ≡ true →
    joins (windowed h) i ≡ (not (h.wanted i) && less_far (h.far i) (h.rest i) (weight_of (h.place i)) h.mark_far h.mark_rest h.mark_over)
joins-wanting h i e = rw (sym (wants-joined (windowed h) i) ∙ e) refl

joins-resting : (h : House) (i : ℕ) → fair_wants (opened h) i ≡ false → joins (windowed h) i ≡ false
joins-resting h i e = rw (sym (wants-joined (windowed h) i) ∙ e) refl

-- What is kept at k as its turn comes is what the last tick left.
module _ (base : ℕ) (h : House) (f : Fair) (k : ℕ) (lk : k < 64) (at : Begins base k f h) where
  pub stood : (d : Position) → 0 < weight_of (h.place k) → Stands base (weight_of (h.place k)) (h.far k) (h.rest k) (get_or f.positions k d)
  stood d heavy =
      subst (λ x. Stands base (weight_of (h.place k)) x (h.rest k) (get_or f.positions k d)) (upto_from (opened h).far h.far k k (le_refl k))
      (subst (λ x. Stands base (weight_of (h.place k)) (up_to k (opened h).far h.far k) x (get_or f.positions k d)) (upto_from (opened h).rest h.rest k k (le_refl k)) (at.all.each k d lk heavy))

  pub stood-wanted : get_or f.wanted k false ≡ h.wanted k
  stood-wanted = at.flags.at k ∙ upto_from (fair_wants (opened h)) h.wanted k k (le_refl k)

  -- the flag at k is written
  begins-flags : (b : Bool) → b ≡ fair_wants (opened h) k → Reads (λ (x : Bool). x) false (set f.wanted k b) (up_to (k + 1) (fair_wants (opened h)) h.wanted)
  begins-flags b e = upto-set (fair_wants (opened h)) h.wanted (λ (x : Bool). x) false f.wanted k k b refl lk e at.flags

  -- the other places are as they were
  begins-other : (j : ℕ) (d : Position) → j < 64 → (j ≡ k → ⊥) → 0 < weight_of (h.place j) →
      Stands base (weight_of (h.place j)) (up_to (k + 1) (opened h).far h.far j) (up_to (k + 1) (opened h).rest h.rest j) (get_or f.positions j d)
  begins-other j d l n heavy =
      subst (λ x. Stands base (weight_of (h.place j)) x (up_to (k + 1) (opened h).rest h.rest j) (get_or f.positions j d)) (sym (up-to-other (opened h).far h.far k j n))
      (subst (λ x. Stands base (weight_of (h.place j)) (up_to k (opened h).far h.far j) x (get_or f.positions j d)) (sym (up-to-other (opened h).rest h.rest k j n)) (at.all.each j d l heavy))

  -- the place k, with what stands there
  begins-here : (p : Position) → Stands base (weight_of (h.place k)) ((opened h).far k) ((opened h).rest k) p →
      Stands base (weight_of (h.place k)) (up_to (k + 1) (opened h).far h.far k) (up_to (k + 1) (opened h).rest h.rest k) p
  begins-here p there =
      subst (λ x. Stands base (weight_of (h.place k)) x (up_to (k + 1) (opened h).rest h.rest k) p) (sym (upto-below (opened h).far h.far (k + 1) k (omega arith)))
      (subst (λ x. Stands base (weight_of (h.place k)) ((opened h).far k) x p) (sym (upto-below (opened h).rest h.rest (k + 1) k (omega arith))) there)

  -- nobody fair wants at k
  pub begins-over : fair_wants (opened h) k ≡ false → Begins base (k + 1) (record { positions = f.positions; wanted = set f.wanted k false; mark = f.mark; least = f.least }) h
  begins-over no' =
      record {
        all = record { len = at.all.len; each = λ j d l heavy. ⊎_elim (λ same. here j d same heavy) (λ n. begins-other j d l n heavy) (cases_eq j k) };
        exact = λ j d l lj w. at.exact j d l (⊎_elim (λ same. absurd (true≢false (sym w ∙ subst (λ x. fair_wants (opened h) x ≡ false) (sym same) no'))) (λ n. omega arith) (cases_eq j k)) w;
        mark = at.mark;
        flags = begins-flags false (sym no');
        low = at.low;
        least = candidate-over (opened h) k f.least no' at.least;
      }
    where
      stays : (d : Position) → 0 < weight_of (h.place k) → Stands base (weight_of (h.place k)) ((opened h).far k) ((opened h).rest k) (get_or f.positions k d)
      stays d heavy = rw (joins-resting h k no') (stood d heavy)

      here : (j : ℕ) (d : Position) → j ≡ k → 0 < weight_of (h.place j) →
          Stands base (weight_of (h.place j)) (up_to (k + 1) (opened h).far h.far j) (up_to (k + 1) (opened h).rest h.rest j) (get_or f.positions j d)
      here j d same heavy =
          subst (λ x. Stands base (weight_of (h.place x)) (up_to (k + 1) (opened h).far h.far x) (up_to (k + 1) (opened h).rest h.rest x) (get_or f.positions x d)) (sym same)
          (begins-here (get_or f.positions k d) (stays d (subst (λ x. 0 < weight_of (h.place x)) same heavy)))

  -- the task at k wants, and begins the tick at p
  pub begins-joined : (p : Position) (least : Option TaskId) → fair_wants (opened h) k ≡ true → StandsAt base k h p → Candidate (opened h) (k + 1) least →
      Begins base (k + 1) (record { positions = set f.positions k p; wanted = set f.wanted k true; mark = f.mark; least = least }) h
  begins-joined p least wants there candidate =
      record {
        all = stand-set base f.positions h.place (up_to (k + 1) (opened h).far h.far) (up_to (k + 1) (opened h).rest h.rest) k p lk at.all.len (λ heavy. begins-here p (record { weight = there.weight; near = inl (there.whole, there.part) })) begins-other;
        exact = λ j d l lj w. ⊎_elim (λ same. here j d same) (λ n. subst (λ q. StandsAt base j h q) (sym (get_or-set_other f.positions k j p d n)) (at.exact j d l (omega arith) w)) (cases_eq j k);
        mark = at.mark;
        flags = begins-flags true (sym wants);
        low = at.low;
        least = candidate;
      }
    where
      here : (j : ℕ) (d : Position) → j ≡ k → StandsAt base j h (get_or (set f.positions k p) j d)
      here j d same =
          subst (λ x. StandsAt base x h (get_or (set f.positions k p) x d)) (sym same) (subst (λ q. StandsAt base k h q) (sym (get_or-set_same f.positions k p d (omega (arith, at.all.len)))) there)

-- FROM THE FIRST PLACE to the last.
pub begins-first : {h : House} (f : Fair) (fairly : FairlyOf f h) → Begins fairly.base 0 (record { positions = f.positions; wanted = f.wanted; mark = f.mark; least = None }) h
begins-first {h} f fairly =
    record {
      all = record { len = fairly.all.len; each = λ i d l heavy. rw (le-ltb i 0 zero-le) (fairly.all.each i d l heavy) };
      exact = λ i d l li w. absurd (omega arith);
      mark = fairly.mark;
      flags = record { len = fairly.flags.len; at = λ i. fairly.flags.at i ∙ sym (upto_from (fair_wants (opened h)) h.wanted 0 i zero-le) };
      low = fairly.low;
      least = λ j l. absurd (omega arith);
    }

-- The mark is p: so it is in the house after the tick.
abbrev MarkIs : ℕ → House → Position → Type 0
MarkIs base h p = Exact base (ticked h 0).mark_over (ticked h 0).mark_far (ticked h 0).mark_rest p

mark-moves : (h : House) (base i : ℕ) (p : Position) → moves h ≡ true → first' h ≡ i → Exact base (weight_of (h.place i)) (h.far i) (h.rest i) p → MarkIs base h p
mark-moves h base i p m e there = rw (m, e) there

mark-rests : (h : House) (base : ℕ) (p : Position) → moves h ≡ false → Exact base h.mark_over h.mark_far h.mark_rest p → MarkIs base h p
mark-rests h base p m there = rw m there

module _ (base : ℕ) (h : House) (f : Fair) (at : Begins base 64 f h) where
  -- the least far, if one wants
  least-is : (i : TaskId) → f.least ≡ Some i → LeastBelow (opened h) 64 i.index
  least-is i e = subst (λ o. Candidate (opened h) 64 o) e at.least

  module _ (i : TaskId) (k : ℕ) (d : Position) (e : f.least ≡ Some i) (is : k ≡ i.index) where
    least-stands : StandsAt base i.index h (get_or f.positions k d)
    least-stands =
        let least = least-is i e in
        subst (λ x. StandsAt base i.index h (get_or f.positions x d)) (sym is) (at.exact i.index d least.below least.below least.wants')

    moves-if : moves (opened h) ≡ less_far f.mark.whole f.mark.rest f.mark.weight.value (get_or f.positions k d).whole (get_or f.positions k d).rest (get_or f.positions k d).weight.value
    moves-if = moves-to (opened h) i.index (least-is i e) ∙ exact-less f.mark (get_or f.positions k d) at.mark least-stands

    pub mark-raised : less_far f.mark.whole f.mark.rest f.mark.weight.value (get_or f.positions k d).whole (get_or f.positions k d).rest (get_or f.positions k d).weight.value ≡ true →
        MarkIs base (opened h) (get_or f.positions k d)
    mark-raised less =
        mark-moves (opened h) base i.index (get_or f.positions k d) (moves-if ∙ less) (first-of-all (opened h) i.index (least-is i e)) least-stands

    pub mark-stays : less_far f.mark.whole f.mark.rest f.mark.weight.value (get_or f.positions k d).whole (get_or f.positions k d).rest (get_or f.positions k d).weight.value ≡ false →
        MarkIs base (opened h) f.mark
    mark-stays less = mark-rests (opened h) base f.mark (moves-if ∙ less) at.mark

  pub mark-alone : f.least ≡ None → MarkIs base (opened h) f.mark
  mark-alone e = mark-rests (opened h) base f.mark (stays_put (opened h) (subst (λ o. Candidate (opened h) 64 o) e at.least)) at.mark

  -- all places have been asked, and the mark is known
  pub begun : (mark : Position) → PositionsOf h → MarkIs base (opened h) mark → Begun (record { positions = f.positions; wanted = f.wanted; mark = mark; least = f.least }) h
  begun mark positions moved =
      record {
        base = base;
        all = record { len = at.all.len; each = each };
        exact = λ i d l w. at.exact i d l l w;
        mark = moved;
        flags = record { len = at.flags.len; at = flag };
        low = omega (arith, at.mark.whole, at.low);
        least = candidate-least (opened h) f.least at.least;
      }
    where
      each : (i : ℕ) (d : Position) → i < 64 → 0 < weight_of (h.place i) → Stands base (weight_of (h.place i)) ((opened h).far i) ((opened h).rest i) (get_or f.positions i d)
      each i d l heavy =
          subst (λ x. Stands base (weight_of (h.place i)) x ((opened h).rest i) (get_or f.positions i d)) (upto-below (opened h).far h.far 64 i l)
          (subst (λ x. Stands base (weight_of (h.place i)) (up_to 64 (opened h).far h.far i) x (get_or f.positions i d)) (upto-below (opened h).rest h.rest 64 i l) (at.all.each i d l heavy))

      nobody : (i : ℕ) → 64 ≤ i → fair_wants (opened h) i ≡ false
      nobody i l = ⊎_elim (λ w. let within = positions.within i (fair-heavy (opened h) i w) in absurd (omega arith)) (λ n. n) (cases_Bool (fair_wants (opened h) i))

      flag : (i : ℕ) → get_or f.wanted i false ≡ fair_wants (opened h) i
      flag i =
          ⊎_elim (λ l. at.flags.at i ∙ upto-below (fair_wants (opened h)) h.wanted 64 i l) (λ l. get_or_past f.wanted i false (omega (arith, at.flags.len)) ∙ sym (nobody i l)) (cases_lt i 64)

-- the one whose turn it is, compared with the least far so far
pub compared : (base : ℕ) (h : House) (f : Fair) (i : ℕ) → Begins base i f h → (p : Position) → StandsAt base i h p → (j : TaskId) (k : ℕ) (d : Position) → f.least ≡ Some j → k ≡ j.index →
    less_far p.whole p.rest p.weight.value (get_or f.positions k d).whole (get_or f.positions k d).rest (get_or f.positions k d).weight.value ≡ nearer (opened h) i j.index
compared base h f i at p there j k d e is =
    let least = subst (λ o. Candidate (opened h) i o) e at.least in
    sym (exact-less p (get_or f.positions k d) there (subst (λ x. StandsAt base j.index h (get_or f.positions x d)) (sym is) (at.exact j.index d j.within least.below least.wants')))

-- THE POSITION of a task that wants, as its turn comes.
module _ (base : ℕ) (h : House) (f : Fair) (i : TaskId) (positions : PositionsOf h) (wants : fair_wants (opened h) i.index ≡ true) (at : Begins base i.index f h) (k m : ℕ) (d : Position) (is : k ≡ i.index) (is' : m ≡ i.index) where
  weighs : 0 < weight_of (h.place i.index)
  weighs = fair-heavy (opened h) i.index wants

  stood-there : Stands base (weight_of (h.place i.index)) (h.far i.index) (h.rest i.index) (get_or f.positions k d)
  stood-there =
      subst (λ x. Stands base (weight_of (h.place i.index)) (h.far i.index) (h.rest i.index) (get_or f.positions x d)) (sym is) (stood base h f i.index i.within at d weighs)

  stood-flag : get_or f.wanted m false ≡ h.wanted i.index
  stood-flag = ap (λ x. get_or f.wanted x false) is' ∙ stood-wanted base h f i.index i.within at

  -- behind the mark and didn't want the last tick: brought to the mark
  pub brought : (v : Weight) (q : Position) → get_or f.wanted m false ≡ false →
      less_far (get_or f.positions k d).whole (get_or f.positions k d).rest (get_or f.positions k d).weight.value f.mark.whole f.mark.rest f.mark.weight.value ≡ true →
      v ≡ (get_or f.positions k d).weight → q.weight ≡ v → q.whole ≡ capped (joined_far f.mark.whole f.mark.rest f.mark.weight.value v.value) →
      q.rest ≡ joined_rest f.mark.rest f.mark.weight.value v.value → StandsAt base i.index h q
  brought v q rests less e weight whole rest =
      joined-behind (joins (windowed h) i.index) (h.wanted i.index) (get_or f.positions k d) f.mark q (joins-wanting h i.index wants) (sym stood-flag ∙ rests) stood-there at.mark at.low less (weight ∙ e)
      (subst (λ x. q.whole ≡ capped (joined_far f.mark.whole f.mark.rest f.mark.weight.value x.value)) e whole) (subst (λ x. q.rest ≡ joined_rest f.mark.rest f.mark.weight.value x.value) e rest)

  -- else it stays
  pub not-brought : (get_or f.wanted m false ≡ true) ⊎ ((get_or f.wanted m false ≡ false) × (less_far (get_or f.positions k d).whole (get_or f.positions k d).rest (get_or f.positions k d).weight.value f.mark.whole f.mark.rest f.mark.weight.value ≡ false)) →
      StandsAt base i.index h (get_or f.positions k d)
  not-brought why =
      joined-stays (joins (windowed h) i.index) (h.wanted i.index) (get_or f.positions k d) f.mark weighs (joins-wanting h i.index wants) (positions.each i.index weighs) stood-there at.mark
      (⊎_elim (λ t. inl (sym stood-flag ∙ t)) (λ n. inr (sym stood-flag ∙ n.0, n.1)) why)

-- what is asked at a place is whether a fair task there wants
pub asked : (h : House) (slots : List Slot) (flags : List Bool) (i : ℕ) (s : Slot) (fair ask : Bool) → Reads place_of slot.Free slots h.place → Wanting flags h → s ≡ get_or slots i slot.Free → fair ≡ ltb 0 (weight_of (place_of s)) →
    ((fair ≡ true) × (ask ≡ get_or flags i false)) ⊎ ((fair ≡ false) × (ask ≡ false)) → ask ≡ fair_wants (opened h) i
asked h slots flags i s fair ask reads wanting is told ways = ⊎_elim (λ y. both y.0 y.1) (λ n. n.1 ∙ sym (neither n.0)) ways
  where
    weight : fair ≡ ltb 0 (weight_of (h.place i))
    weight = told ∙ ap (λ x. ltb 0 (weight_of (place_of x))) is ∙ ap (λ p. ltb 0 (weight_of p)) (reads.at i)

    same : wants (opened h) i ≡ wants h i
    same = rw (runner-opened 64 h i) refl

    both : fair ≡ true → ask ≡ get_or flags i false → ask ≡ fair_wants (opened h) i
    both y a = a ∙ wanting.at i ∙ sym same ∙ sym (ap (λ b. b && wants (opened h) i) (sym weight ∙ y))

    neither : fair ≡ false → fair_wants (opened h) i ≡ false
    neither n = and_left (ltb 0 (weight_of (h.place i))) (wants (opened h) i) (sym weight ∙ n)
