-- A tick passes: whoever had it goes one part on, and the others stand where they stood.
use Rattle.std.proofs.Common.{◌≡◌, ℕ, suc, ◌+◌, ◌<◌, ◌≤◌, min, Bool, true, false, cond, not, ◌&&◌, eqb, ltb, get_or, set, sym, refl, ap, ◌∙◌, subst, inl, ⊎_elim, arith}
use Rattle.std.proofs.lemmas.Bool.{cases_eq, and_parts, and_left, and_right, eq-eqb, ne_eqb, lt-ltb}
use Rattle.quantities.specs.Ids.{TaskId}
use Rattle.virtual_time.specs.declared.position.Position.{Position}
use Rattle.virtual_time.specs.Positions.{capped, ticked_far, ticked_rest}
use Rattle.sched.specs.declared.fair.Fair.{Fair}
use Rattle.sched.specs.House.{House, weight_of, fair_wants, opened, nearer, least_far, some', goes_on, passed, ticked}
use Rattle.sched.specs.Stores.{Stands, Exact, AllStand}
use Rattle.sched.specs.Begun.{Begun, Passing}
use Rattle.sched.proofs.positions.Joining.{far-most}
use Rattle.sched.proofs.positions.Standing.{stand-set}
use Rattle.sched.proofs.model.Positions.{PositionsOf, fair-heavy, freed-weight, positions-opened}

-- one part on, far from the cap
step-shift : (b : Bool) (base u : ℕ) → u < 1026 → cond b (base + u + 1) (base + u) ≡ base + min (cond b (u + 1) u) 4294967295
step-shift true base u l = omega arith
step-shift false base u l = omega arith

exact-advanced : {base w f r : ℕ} (p q : Position) → Exact base w f r p → p.whole < 1026 → q.weight ≡ p.weight → q.whole ≡ capped (ticked_far p.whole p.rest p.weight.value) → q.rest ≡ ticked_rest p.rest p.weight.value →
    Exact base w (ticked_far f r w) (ticked_rest r w) q
exact-advanced {base} p q at low weight whole rest =
    rw (at.whole, at.part, ← at.weight) (record {
      weight = ap (λ v. v.value) weight;
      whole = step-shift (eqb (p.rest + 1) p.weight.value) base p.whole low ∙ ap (λ x. base + x) (sym whole);
      part = sym rest;
    })

-- A house in which a tick has begun is any, as far as these go.
module _ (h : House) (base : ℕ) where
  -- one whose tick it wasn't
  stands-still : (r j : ℕ) (p : Position) → goes_on h r j ≡ false → Stands base (weight_of (h.place j)) (h.far j) (h.rest j) p → Stands base (weight_of ((ticked h r).place j)) ((ticked h r).far j) ((ticked h r).rest j) p
  stands-still r j p still there = rw (still, freed-weight (passed (eqb r (suc j)) (h.window j)) (h.place j)) there

  -- one whose tick it was
  steps : (i : ℕ) (p : Position) → 0 < weight_of (h.place i) → Exact base (weight_of (h.place i)) (ticked_far (h.far i) (h.rest i) (weight_of (h.place i))) (ticked_rest (h.rest i) (weight_of (h.place i))) p →
      Stands base (weight_of ((ticked h (suc i)).place i)) ((ticked h (suc i)).far i) ((ticked h (suc i)).rest i) p
  steps i p heavy there =
      rw (eq-eqb (suc i) (suc i) refl, lt-ltb 0 (weight_of (h.place i)) heavy, freed-weight (passed true (h.window i)) (h.place i)) (record { weight = there.weight; near = inl (there.whole, there.part) })

-- nobody fair has the tick
pub passing-still : {h : House} (f : Fair) (r : ℕ) → ((j : ℕ) → goes_on (opened h) r j ≡ false) → Begun f h → Passing f (ticked (opened h) r)
passing-still {h} f r still at =
    record {
      base = at.base;
      all = record {
        len = at.all.len;
        each = λ j d l heavy. stands-still (opened h) at.base r j (get_or f.positions j d) (still j) (at.all.each j d l (subst (λ w. 0 < w) (freed-weight (passed (eqb r (suc j)) ((opened h).window j)) (h.place j)) heavy));
      };
      mark = at.mark;
      flags = at.flags;
    }

pub still-none : (h : House) (j : ℕ) → goes_on h 0 j ≡ false
still-none h j = and_left (eqb 0 (suc j)) (ltb 0 (weight_of (h.place j))) (ne_eqb 0 (suc j) (λ e. omega arith))

still-other : (h : House) (i j : ℕ) → (j ≡ i → ⊥) → goes_on h (suc i) j ≡ false
still-other h i j n = and_left (eqb (suc i) (suc j)) (ltb 0 (weight_of (h.place j))) (ne_eqb (suc i) (suc j) (λ e. n (omega arith)))

-- the tick is a task's that isn't fair, or nobody's
pub still-light : (h : House) (i j : ℕ) → ltb 0 (weight_of (h.place i)) ≡ false → goes_on h (suc i) j ≡ false
still-light h i j light =
    ⊎_elim (λ same. and_right (eqb (suc i) (suc j)) (ltb 0 (weight_of (h.place j))) (subst (λ x. ltb 0 (weight_of (h.place x)) ≡ false) (sym same) light)) (still-other h i j) (cases_eq j i)

-- the least far has it
pub passing_step : {h : House} (f : Fair) (i : TaskId) (k m : ℕ) (d q : Position) → PositionsOf h → least_far (opened h) i.index ≡ true → Begun f h → k ≡ i.index → m ≡ i.index → q.weight ≡ (get_or f.positions k d).weight →
    q.whole ≡ capped (ticked_far (get_or f.positions k d).whole (get_or f.positions k d).rest (get_or f.positions k d).weight.value) → q.rest ≡ ticked_rest (get_or f.positions k d).rest (get_or f.positions k d).weight.value →
    Passing (record { positions = set f.positions m q; wanted = f.wanted; mark = f.mark; least = f.least }) (ticked (opened h) (suc i.index))
passing_step {h} f i k m d q positions least at is is' weight whole rest =
    record {
      base = at.base;
      all = subst (λ x. AllStand at.base (set f.positions x q) (ticked (opened h) (suc i.index)).place (ticked (opened h) (suc i.index)).far (ticked (opened h) (suc i.index)).rest) (sym is')
          (stand-set at.base f.positions (ticked (opened h) (suc i.index)).place (ticked (opened h) (suc i.index)).far (ticked (opened h) (suc i.index)).rest i.index q i.within at.all.len (λ _. here) else);
      mark = at.mark;
      flags = at.flags;
    }
  where
    wants : fair_wants (opened h) i.index ≡ true
    wants = (and_parts (fair_wants (opened h) i.index) (not (some' 64 (λ (j : ℕ). fair_wants (opened h) j && nearer (opened h) j i.index))) least).0

    heavy : 0 < weight_of (h.place i.index)
    heavy = fair-heavy (opened h) i.index wants

    exact : Exact at.base (weight_of (h.place i.index)) ((opened h).far i.index) ((opened h).rest i.index) (get_or f.positions k d)
    exact = subst (λ x. Exact at.base (weight_of (h.place i.index)) ((opened h).far i.index) ((opened h).rest i.index) (get_or f.positions x d)) (sym is) (at.exact i.index d i.within wants)

    -- who wants is at most two wholes beyond the mark, and that was low
    low : (get_or f.positions k d).whole < 1026
    low = let most : (opened h).far i.index ≤ h.mark_far + 2 = far-most heavy positions.mark-proper ((positions-opened h positions).each i.index heavy) in omega (arith, exact.whole, at.low)

    here : Stands at.base (weight_of ((ticked (opened h) (suc i.index)).place i.index)) ((ticked (opened h) (suc i.index)).far i.index) ((ticked (opened h) (suc i.index)).rest i.index) q
    here = steps (opened h) at.base i.index q heavy (exact-advanced (get_or f.positions k d) q exact low weight whole rest)

    else : (j : ℕ) (e : Position) → j < 64 → (j ≡ i.index → ⊥) → 0 < weight_of ((ticked (opened h) (suc i.index)).place j) →
        Stands at.base (weight_of ((ticked (opened h) (suc i.index)).place j)) ((ticked (opened h) (suc i.index)).far j) ((ticked (opened h) (suc i.index)).rest j) (get_or f.positions j e)
    else j e l n weighs =
        stands-still (opened h) at.base (suc i.index) j (get_or f.positions j e) (still-other (opened h) i.index j n)
        (at.all.each j e l (subst (λ w. 0 < w) (freed-weight (passed (eqb (suc i.index) (suc j)) ((opened h).window j)) (h.place j)) weighs))
