-- How far all fair tasks are, kept by every call and every tick: what fairness rests on.
use Rattle.std.proofs.Common.{◌≡◌, ℕ, suc, ◌+◌, ◌-◌, ◌*◌, ◌/◌, ◌%◌, ◌<◌, ◌≤◌, Bool, true, false, cond, T, eqb, ltb, ◌⊎◌, Option, sym, refl, ◌∙◌, inl, inr, ⊎_elim, le_refl, le_of_lt, arith}
use Rattle.std.proofs.lemmas.Bool.{cases_Bool, cases_eq, and_parts, not-true, lt-ltb, eq-eqb, ne_eqb, ltb-true, eqb-true}
use Rattle.sched.specs.House.{House, Place, Nobody, A, Kept, Window, Shut, Open, less_far, weight_of, empty, put, leaves, wants, fair_wants, joins, joined, windowed, opened, least_far, nearer, some', first', moves, goes_on, freed, passed, ticked, calls, after, may_run, number_of}
use Rattle.sched.specs.Promise.{Comes, begin, called, ran}
use Rattle.sched.specs.declared.Call.{Call}
use Rattle.sched.proofs.Puts.{put-else, put_both}
use Rattle.sched.proofs.Bounded.{some-from, none-at, first-is}
use Rattle.sched.proofs.Fractions.{le-trans-frac}
use Rattle.sched.proofs.model.Places.{leaves-weightless}
use Rattle.sched.proofs.model.Runner.{runner-same}
use Rattle.sched.proofs.model.TakeWays.{run-taken, fair-takes}
use Rattle.sched.proofs.model.CallWays.{Ways, call-ways}
use Rattle.sched.proofs.model.Position.{Position, less-far-true, less-far-false, position-made, position-joined, position-marked, position-stepped, position-either}

pub record Positions (place : ℕ → Place) (far rest : ℕ → ℕ) (mark_far mark_rest mark_over : ℕ) (wanted : ℕ → Bool) : Type 0 where
  pub mark-proper : mark_rest < mark_over
  pub within : (i : ℕ) → 0 < weight_of (place i) → i < 64
  pub each : (i : ℕ) → 0 < weight_of (place i) → Position (weight_of (place i)) (far i) (rest i) mark_far mark_rest mark_over (wanted i)

abbrev pub PositionsOf : House → Type 0
PositionsOf h = Positions h.place h.far h.rest h.mark_far h.mark_rest h.mark_over h.wanted

pub positions-empty : PositionsOf empty
unfolding weight_of
positions-empty = record { mark-proper = omega arith; within = λ i l. absurd (omega arith); each = λ i l. absurd (omega arith) }

-- CALLS
module _ (place : ℕ → Place) (far rest : ℕ → ℕ) (m s o : ℕ) (wanted : ℕ → Bool) (at : Positions place far rest m s o wanted) where
  -- places at which no weight is new
  pub positions-placed : (p : ℕ → Place) → ((i : ℕ) → 0 < weight_of (p i) → weight_of (p i) ≡ weight_of (place i)) → Positions p far rest m s o wanted
  positions-placed p same =
      let heavy : (i : ℕ) → 0 < weight_of (p i) → 0 < weight_of (place i) = λ i l. rw (same i l) at l in
      record { mark-proper = at.mark-proper; within = λ i l. at.within i (heavy i l); each = λ i l. rw (same i l) (at.each i (heavy i l)) }

  -- a task made at n
  pub positions-made : (n : ℕ) (p : ℕ → Place) → n < 64 → ((i : ℕ) → (i ≡ n → ⊥) → p i ≡ place i) →
      Positions p (put n (cond (ltb 0 (weight_of (p n))) (m + ((s * weight_of (p n) + (o - 1)) / o + 1) / weight_of (p n)) 0) far)
      (put n (cond (ltb 0 (weight_of (p n))) (((s * weight_of (p n) + (o - 1)) / o + 1) % weight_of (p n)) 0) rest) m s o (put n false wanted)
  positions-made n p ln same =
      record {
        mark-proper = at.mark-proper;
        within = λ i l. ⊎_elim (λ e. rw e ln) (λ e. at.within i (rw (same i e) at l)) (cases_eq i n);
        each = λ i l. ⊎_elim (λ e. rw (eq-eqb i n e, e, lt-ltb 0 (weight_of (p n)) (rw e at l)) (position-made (weight_of (p n)) m s o (rw e at l) at.mark-proper))
            (λ e. rw (ne_eqb i n e, same i e) (at.each i (rw (same i e) at l))) (cases_eq i n);
      }

positions-ways : (h : House) → PositionsOf h → Ways h (λ o. PositionsOf o.house)
positions-ways h at =
    record {
      refused = λ n. at;
      make = λ n k _ l _ _ _. positions-made h.place h.far h.rest h.mark_far h.mark_rest h.mark_over h.wanted at n (put n (A k) h.place) l (put-else n (A k) h.place);
      end = λ i _ _ _ _. positions-placed h.place h.far h.rest h.mark_far h.mark_rest h.mark_over h.wanted at (put i (leaves (h.window i) (h.place i)) h.place)
          (λ j. put_both i (leaves (h.window i) (h.place i)) h.place j (λ p. 0 < weight_of p → weight_of p ≡ weight_of (h.place j)) (λ _ l. absurd (omega (arith, leaves-weightless (h.window i) (h.place i)))) (λ _ _. refl));
      wake = λ i _ _. at;
      sleep = λ i _ _ _. at;
      take = λ i m _ _ _ _ _ _. at;
      queue = λ i m _ _ _ _ _ _ _. at;
      free = λ i m _ _ _ _ _ _. at;
      pass = λ i m j js _ _ _ _ _ _. at;
    }

pub positions-called : (h : House) (c : Call) → PositionsOf h → PositionsOf (calls c h).house
positions-called h c at = call-ways h (λ o. PositionsOf o.house) (positions-ways h at) c

-- TICKS. Who wants, once tasks have joined, isn't behind the mark.
pub positions-joined : (h : House) (wants' : ℕ → Bool) → ((i : ℕ) → wants' i ≡ true → fair_wants h i ≡ true) → PositionsOf h →
    Positions h.place (joined h).far (joined h).rest h.mark_far h.mark_rest h.mark_over wants'
positions-joined h wants' wanting at =
    record {
      mark-proper = at.mark-proper;
      within = at.within;
      each = λ i l. let old = at.each i l in
          position-either (joins h i) (weight_of (h.place i)) _ _ (h.far i) (h.rest i) h.mark_far h.mark_rest h.mark_over (wants' i)
          (λ _. position-joined (weight_of (h.place i)) h.mark_far h.mark_rest h.mark_over (wants' i) l at.mark-proper)
          (λ stays. record { proper = old.proper; near = old.near; reached = λ e. reached i old (wanting i e) stays (cases_Bool (h.wanted i)) });
    }
  where
    reached : (i : ℕ) → Position (weight_of (h.place i)) (h.far i) (h.rest i) h.mark_far h.mark_rest h.mark_over (h.wanted i) → fair_wants h i ≡ true → joins h i ≡ false → (h.wanted i ≡ true) ⊎ (h.wanted i ≡ false) →
        (h.mark_far * h.mark_over + h.mark_rest) * weight_of (h.place i) ≤ (h.far i * weight_of (h.place i) + h.rest i) * h.mark_over
    reached i old wants stays (inl e) = old.reached e
    reached i old wants stays (inr e) =
        let behind : less_far (h.far i) (h.rest i) (weight_of (h.place i)) h.mark_far h.mark_rest h.mark_over ≡ false = rw (wants, e) at stays in
        less-far-false (h.far i) (h.rest i) (weight_of (h.place i)) h.mark_far h.mark_rest h.mark_over old.proper at.mark-proper behind

pub fair-heavy : (h : House) (i : ℕ) → fair_wants h i ≡ true → 0 < weight_of (h.place i)
fair-heavy h i e = ltb-true 0 (weight_of (h.place i)) (and_parts (ltb 0 (weight_of (h.place i))) (wants h i) e).0

-- joining is no matter for who wants
pub wants-joined : (h : House) (i : ℕ) → fair_wants (joined h) i ≡ fair_wants h i
wants-joined h i = rw (runner-same h (joined h) (λ _. refl) (λ _. refl) 64 i) refl

pub positions-opened : (h : House) → PositionsOf h → Positions h.place (opened h).far (opened h).rest h.mark_far h.mark_rest h.mark_over (fair_wants (opened h))
positions-opened h at = positions-joined (windowed h) (fair_wants (opened h)) (λ i e. sym (wants-joined (windowed h) i) ∙ e) at

-- how far i is, and the mark, in parts
abbrev pub parts_of : House → ℕ → ℕ
parts_of h i = h.far i * weight_of (h.place i) + h.rest i

abbrev pub mark_parts : House → ℕ
mark_parts h = h.mark_far * h.mark_over + h.mark_rest

-- A mark of n and t parts of p, no less than that of h: not beyond who wants, nor behind the least far.
pub record Marked (h : House) (n t p : ℕ) : Type 0 where
  pub proper : t < p
  pub up : mark_parts h * p ≤ (n * p + t) * h.mark_over
  pub reached : (j : ℕ) → fair_wants h j ≡ true → (n * p + t) * weight_of (h.place j) ≤ parts_of h j * p
  pub reaches : (i : ℕ) → least_far h i ≡ true → parts_of h i * p ≤ (n * p + t) * weight_of (h.place i)

marked-either : (h : House) (b : Bool) (m s o n t p : ℕ) → (b ≡ true → Marked h m s o) → (b ≡ false → Marked h n t p) → Marked h (cond b m n) (cond b s t) (cond b o p)
marked-either h true m s o n t p y f = y refl
marked-either h false m s o n t p y f = f refl

pub freed-weight : (w : Window) (p : Place) → weight_of (freed w p) ≡ weight_of p
unfolding freed weight_of
freed-weight Shut Nobody = refl
freed-weight Shut (A k) = refl
freed-weight Shut (Kept q p) = refl
freed-weight (Open e g b) p = refl

-- A tick that begins with h, whose positions are those of who wants it.
module _ (h : House) (at : Positions h.place h.far h.rest h.mark_far h.mark_rest h.mark_over (fair_wants h)) where
  -- nobody who wants is behind the least far
  pub least-behind : (i j : ℕ) → least_far h i ≡ true → fair_wants h j ≡ true → parts_of h i * weight_of (h.place j) ≤ parts_of h j * weight_of (h.place i)
  least-behind i j e w =
      let wanting = and_parts (fair_wants h i) _ e in
      let none = none-at _ 64 j (not-true _ wanting.1) (at.within j (fair-heavy h j w)) in
      let behind : nearer h j i ≡ false = rw w at none in
      less-far-false (h.far j) (h.rest j) (weight_of (h.place j)) (h.far i) (h.rest i) (weight_of (h.place i))
      (at.each j (fair-heavy h j w)).proper (at.each i (fair-heavy h i wanting.0)).proper behind

  least-wants : (i : ℕ) → least_far h i ≡ true → fair_wants h i ≡ true
  least-wants i e = (and_parts (fair_wants h i) _ e).0

  least_first : some' 64 (least_far h) ≡ true → least_far h (first' h) ≡ true
  least_first e = first-is (least_far h) 64 e

  moved_up : moves h ≡ true → Marked h (h.far (first' h)) (h.rest (first' h)) (weight_of (h.place (first' h)))
  moved_up e =
      let both = and_parts (some' 64 (least_far h)) (less_far h.mark_far h.mark_rest h.mark_over (h.far (first' h)) (h.rest (first' h)) (weight_of (h.place (first' h)))) e in
      let least = least_first both.0 in
      let wants' = least-wants (first' h) least in
      let there = at.each (first' h) (fair-heavy h (first' h) wants') in
      let beyond = less-far-true h.mark_far h.mark_rest h.mark_over (h.far (first' h)) (h.rest (first' h)) (weight_of (h.place (first' h))) at.mark-proper there.proper both.1 in
      record { proper = there.proper; up = le_of_lt beyond; reached = λ j w. least-behind (first' h) j least w; reaches = λ i l. least-behind i (first' h) l wants' }

  not-moved : moves h ≡ false → Marked h h.mark_far h.mark_rest h.mark_over
  not-moved e =
      record { proper = at.mark-proper; up = le_refl _; reached = λ j w. (at.each j (fair-heavy h j w)).reached w; reaches = λ i l. reach i l }
    where
      reach : (i : ℕ) → least_far h i ≡ true → parts_of h i * h.mark_over ≤ mark_parts h * weight_of (h.place i)
      reach i l =
          let some = some-from (least_far h) 64 i (at.within i (fair-heavy h i (least-wants i l))) l in
          let wants' = least-wants (first' h) (least_first some) in
          let heavy = fair-heavy h (first' h) wants' in
          let not_beyond : less_far h.mark_far h.mark_rest h.mark_over (h.far (first' h)) (h.rest (first' h)) (weight_of (h.place (first' h))) ≡ false = rw some at e in
          le-trans-frac (parts_of h i) (weight_of (h.place i)) (parts_of h (first' h)) (weight_of (h.place (first' h))) (mark_parts h) h.mark_over heavy
          (least-behind i (first' h) l wants')
          (less-far-false h.mark_far h.mark_rest h.mark_over (h.far (first' h)) (h.rest (first' h)) (weight_of (h.place (first' h))) at.mark-proper (at.each (first' h) heavy).proper not_beyond)

  pub mark-ticked : (r : ℕ) → Marked h (ticked h r).mark_far (ticked h r).mark_rest (ticked h r).mark_over
  mark-ticked r = marked-either h (moves h) (h.far (first' h)) (h.rest (first' h)) (weight_of (h.place (first' h))) h.mark_far h.mark_rest h.mark_over moved_up not-moved

  -- whose the tick is, if fair, is least far
  pub positions-ticked : (r : ℕ) → ((i : ℕ) → r ≡ suc i → 0 < weight_of (h.place i) → least_far h i ≡ true) → PositionsOf (ticked h r)
  positions-ticked r least =
      let mark = mark-ticked r in
      positions-placed h.place (ticked h r).far (ticked h r).rest (ticked h r).mark_far (ticked h r).mark_rest (ticked h r).mark_over (fair_wants h)
      (record {
        mark-proper = mark.proper;
        within = at.within;
        each = λ i l.
            position-stepped (goes_on h r i) (weight_of (h.place i)) (h.far i) (h.rest i) (ticked h r).mark_far (ticked h r).mark_rest (ticked h r).mark_over (fair_wants h i) mark.proper
            (position-marked (weight_of (h.place i)) (h.far i) (h.rest i) h.mark_far h.mark_rest h.mark_over (ticked h r).mark_far (ticked h r).mark_rest (ticked h r).mark_over (fair_wants h i) (fair_wants h i) mark.proper (at.each i l) mark.up (mark.reached i))
            (λ g. mark.reaches i (least i (eqb-true r (suc i) (and_parts (eqb r (suc i)) (ltb 0 (weight_of (h.place i))) g).0) l));
      })
      (ticked h r).place (λ i _. freed-weight (passed (eqb r (suc i)) (h.window i)) (h.place i))

pub positions-after : (h : House) (t : Option ℕ) (j : ℕ) → T (may_run h t j) → PositionsOf h → PositionsOf (after h t)
positions-after h t j m at =
    positions-ticked (opened h) (positions-opened h at) (number_of t) (λ i e l. fair-takes (opened h) i (run-taken h t j i m e).1 l)

pub positions-come : {h : House} → Comes h → PositionsOf h
positions-come begin = positions-empty
positions-come (called {h} c k) = positions-called h c (positions-come k)
positions-come (ran {h} t j k m) = positions-after h t j m (positions-come k)
