-- Of two fair tasks that want all along neither gets far ahead: ticks are counted against how far each has come,
-- and whoever has a tick was the least far.
use Rattle.std.proofs.Common.{◌≡◌, ℕ, suc, ◌+◌, ◌*◌, ◌<◌, ◌≤◌, Bool, true, false, cond, not, ◌&&◌, T, eqb, ltb, ◌⊎◌, Option, sym, refl, ap, ◌∙◌, inl, inr, ⊎_elim, arith}
use Rattle.std.proofs.lemmas.Bool.{and_parts, and_left, not-true, not_from_true, lt-ltb, ne_eqb, eqb-true, eqb-false}
use Rattle.sched.specs.declared.Call.{Call}
use Rattle.sched.specs.declared.Call.TheVariants.{Make, End, Wake, Sleep, Lock, Unlock}
use Rattle.sched.specs.House.{House, leaves, Nobody, Out, weight_of, fair_wants, joins, opened, windowed, ticked, goes_on, passed, calls, after, may_run, number_of}
use Rattle.sched.specs.Promise.{Comes, Together, begins, called, ran, ends_none, mine, NearEachOther}
use Rattle.sched.proofs.Tests.{T_true}
use Rattle.sched.proofs.Puts.{put-else}
use Rattle.sched.proofs.Fractions.{near-le-frac}
use Rattle.sched.proofs.model.Position.{stepped}
use Rattle.sched.proofs.model.Positions.{PositionsOf, parts_of, mark_parts, positions-come, positions-opened, fair-heavy, least-behind, freed-weight}
use Rattle.sched.proofs.model.CallWays.{EachWay, each_way}
use Rattle.sched.proofs.model.TakeWays.{run-taken, fair-takes}

-- one tick counted: x and y are how far they are in parts, of weights v and w
pub record Counted (v w x y a b : ℕ) : Type 0 where
  pub gained : a * w + y * v < b * v + x * w + 2 * v
  pub bound : a * w < b * v + 2 * v + w

-- whoever has the tick goes one part on, and the first has it only if it isn't the farther one
pub counted-tick : (v w x y a b : ℕ) (m n : Bool) → a * w + y * v < b * v + x * w + 2 * v → a * w < b * v + 2 * v + w → (m ≡ true → x * w ≤ y * v) →
    Counted v w (x + cond m 1 0) (y + cond n 1 0) (a + cond m 1 0) (b + cond n 1 0)
counted-tick v w x y a b true true g k l = record { gained = omega arith; bound = omega (arith, l refl) }
counted-tick v w x y a b true false g k l = record { gained = omega arith; bound = omega (arith, l refl) }
counted-tick v w x y a b false true g k l = record { gained = omega arith; bound = omega arith }
counted-tick v w x y a b false false g k l = record { gained = omega arith; bound = omega arith }

counted-at : (v w x y v' w' x' y' a b : ℕ) → v' ≡ v → w' ≡ w → x' ≡ x → y' ≡ y → Counted v w x y a b → Counted v' w' x' y' a b
counted-at v w x y v' w' x' y' a b ev ew ex ey c = rw (ev, ew, ex, ey) c

-- CALLS. One that doesn't end a task leaves it as it is.
pub record Untouched (i : ℕ) (h : House) (o : Out) : Type 0 where
  pub place_same : o.house.place i ≡ h.place i
  pub far-same : o.house.far i ≡ h.far i
  pub rest-same : o.house.rest i ≡ h.rest i
  pub wanted-same : o.house.wanted i ≡ h.wanted i

unfoldable pub spares : ℕ → Call → Bool
spares i (Make k) = true
spares i (End m) = not (eqb m i)
spares i (Wake m) = true
spares i (Sleep m) = true
spares i (Lock m l) = true
spares i (Unlock m l) = true

spares-both : (i j : ℕ) (c : Call) → ends_none i j c ≡ true → (spares i c ≡ true) × (spares j c ≡ true)
unfolding ends_none spares
spares-both i j (Make k) e = (refl, refl)
spares-both i j (End m) e = and_parts (not (eqb m i)) (not (eqb m j)) e
spares-both i j (Wake m) e = (refl, refl)
spares-both i j (Sleep m) e = (refl, refl)
spares-both i j (Lock m l) e = (refl, refl)
spares-both i j (Unlock m l) e = (refl, refl)

untouched : (i : ℕ) (h : House) (o : Out) → o.house.place i ≡ h.place i → o.house.far i ≡ h.far i → o.house.rest i ≡ h.rest i → o.house.wanted i ≡ h.wanted i → Untouched i h o
untouched i h o p f r w = record { place_same = p; far-same = f; rest-same = r; wanted-same = w }

spared : (h : House) (i : ℕ) → 0 < weight_of (h.place i) → EachWay h (λ c o. spares i c ≡ true → Untouched i h o)
unfolding spares weight_of
spared h i heavy =
    record {
      refused = λ n _. untouched i h _ refl refl refl refl;
      make = λ n k _ _ free _ _ _.
          let other : eqb i n ≡ false = ne_eqb i n (λ e. let none : 0 < weight_of Nobody = rw (e, free) at heavy in omega arith) in
          untouched i h _ (rw other refl) (rw other refl) (rw other refl) (rw other refl);
      end = λ m _ _ _ _ e. untouched i h _ (put-else m (leaves (h.window m) (h.place m)) h.place i (λ s. eqb-false m i (not-true (eqb m i) e) (sym s))) refl refl refl;
      wake = λ m _ _ _. untouched i h _ refl refl refl refl;
      sleep = λ m _ _ _ _. untouched i h _ refl refl refl refl;
      take = λ m l _ _ _ _ _ _ _. untouched i h _ refl refl refl refl;
      queue = λ m l _ _ _ _ _ _ _ _. untouched i h _ refl refl refl refl;
      free = λ m l _ _ _ _ _ _ _. untouched i h _ refl refl refl refl;
      pass = λ m l j js _ _ _ _ _ _ _. untouched i h _ refl refl refl refl;
    }

pub call-spares : (h : House) (i : ℕ) → 0 < weight_of (h.place i) → (c : Call) → spares i c ≡ true → Untouched i h (calls c h)
call-spares h i heavy c e = each_way h (λ c o. spares i c ≡ true → Untouched i h o) (spared h i heavy) c e

-- TICKS
and-middle : (a b c : Bool) → b ≡ false → (a && b && c) ≡ false
and-middle true b c e = and_left b c e
and-middle false b c e = refl

and-true : (a b : Bool) → b ≡ true → (a && b) ≡ a
and-true true b e = e
and-true false b e = refl

-- who wanted the last tick doesn't join
pub parts-opened : (h : House) (i : ℕ) → h.wanted i ≡ true → parts_of (opened h) i ≡ parts_of h i
parts-opened h i e =
    let stays : joins (windowed h) i ≡ false = and-middle (fair_wants (windowed h) i) (not (h.wanted i)) _ (not_from_true (h.wanted i) e) in
    rw stays refl

pub parts-ticked : (h : House) (r i : ℕ) → h.rest i < weight_of (h.place i) → parts_of (ticked h r) i ≡ parts_of h i + cond (eqb r (suc i)) 1 0
parts-ticked h r i l =
    let goes : goes_on h r i ≡ eqb r (suc i) = and-true (eqb r (suc i)) (ltb 0 (weight_of (h.place i))) (lt-ltb 0 (weight_of (h.place i)) (omega arith)) in
    let step = (stepped (goes_on h r i) (weight_of (h.place i)) (h.far i) (h.rest i) l).1 in
    rw (freed-weight (passed (eqb r (suc i)) (h.window i)) (h.place i), step, goes) refl

-- two that both wanted the last tick, with the ticks that they have had
pub record Running (i j : ℕ) (h : House) (a b : ℕ) : Type 0 where
  pub heavy-i : 0 < weight_of (h.place i)
  pub heavy-j : 0 < weight_of (h.place j)
  pub wanted-i : h.wanted i ≡ true
  pub wanted-j : h.wanted j ≡ true
  pub counted : Counted (weight_of (h.place i)) (weight_of (h.place j)) (parts_of h i) (parts_of h j) a b

running-untouched : (i j : ℕ) (h : House) (a b : ℕ) (o : Out) → Untouched i h o → Untouched j h o → Running i j h a b → Running i j o.house a b
running-untouched i j h a b o ui uj r =
    let weight-i : weight_of (o.house.place i) ≡ weight_of (h.place i) = ap weight_of ui.place_same in
    let weight-j : weight_of (o.house.place j) ≡ weight_of (h.place j) = ap weight_of uj.place_same in
    record {
      heavy-i = rw weight-i r.heavy-i;
      heavy-j = rw weight-j r.heavy-j;
      wanted-i = ui.wanted-same ∙ r.wanted-i;
      wanted-j = uj.wanted-same ∙ r.wanted-j;
      counted = counted-at (weight_of (h.place i)) (weight_of (h.place j)) (parts_of h i) (parts_of h j) _ _ _ _ a b weight-i weight-j (parts-untouched i ui) (parts-untouched j uj) r.counted;
    }
  where
    parts-untouched : (n : ℕ) → Untouched n h o → parts_of o.house n ≡ parts_of h n
    parts-untouched n u = rw (u.place_same, u.far-same, u.rest-same) refl

module _ (i j : ℕ) (h : House) (at : PositionsOf h) (a b : ℕ) where
  -- when a tick begins that both want
  gained-opened : fair_wants (opened h) i ≡ true → fair_wants (opened h) j ≡ true → (a ≡ 0) ⊎ Running i j h a b →
      a * weight_of (h.place j) + parts_of (opened h) j * weight_of (h.place i) < b * weight_of (h.place i) + parts_of (opened h) i * weight_of (h.place j) + 2 * weight_of (h.place i)
  gained-opened wi wj (inl e) =
      let opens = positions-opened h at in
      let reached = (opens.each i (fair-heavy (opened h) i wi)).reached wi in
      let near = (opens.each j (fair-heavy (opened h) j wj)).near in
      let start = near-le-frac (parts_of (opened h) j) (weight_of (h.place j)) (mark_parts h) h.mark_over (parts_of (opened h) i) (weight_of (h.place i)) 2 (fair-heavy (opened h) i wi) near reached in
      rw e (omega arith)
  gained-opened wi wj (inr r) = rw (parts-opened h i r.wanted-i, parts-opened h j r.wanted-j) r.counted.gained

  pub bound-so-far : 0 < weight_of (h.place i) → (a ≡ 0) ⊎ Running i j h a b → a * weight_of (h.place j) < b * weight_of (h.place i) + 2 * weight_of (h.place i) + weight_of (h.place j)
  bound-so-far heavy (inl e) = rw e (omega arith)
  bound-so-far heavy (inr r) = r.counted.bound

  pub running-after : (t : Option ℕ) (k : ℕ) → T (may_run h t k) → fair_wants (opened h) i ≡ true → fair_wants (opened h) j ≡ true → (a ≡ 0) ⊎ Running i j h a b → Running i j (after h t) (a + mine i t) (b + mine j t)
  running-after t k m wi wj so_far =
      let opens = positions-opened h at in
      let heavy-i = fair-heavy (opened h) i wi in
      let heavy-j = fair-heavy (opened h) j wj in
      let least : eqb (number_of t) (suc i) ≡ true → parts_of (opened h) i * weight_of (h.place j) ≤ parts_of (opened h) j * weight_of (h.place i) = λ e.
      least-behind (opened h) opens i j (fair-takes (opened h) i (run-taken h t k i m (eqb-true (number_of t) (suc i) e)).1 heavy-i) wj in
      let count = counted-tick (weight_of (h.place i)) (weight_of (h.place j)) (parts_of (opened h) i) (parts_of (opened h) j) a b (eqb (number_of t) (suc i)) (eqb (number_of t) (suc j)) (gained-opened wi wj so_far) (bound-so-far heavy-i so_far) least in
      let same : (n : ℕ) → weight_of ((after h t).place n) ≡ weight_of (h.place n) = λ n. freed-weight (passed (eqb (number_of t) (suc n)) ((opened h).window n)) (h.place n) in
      record {
        heavy-i = rw (same i) heavy-i;
        heavy-j = rw (same j) heavy-j;
        wanted-i = wi;
        wanted-j = wj;
        counted = counted-at (weight_of (h.place i)) (weight_of (h.place j)) _ _ _ _ _ _ (a + mine i t) (b + mine j t) (same i) (same j)
            (parts-ticked (opened h) (number_of t) i (opens.each i heavy-i).proper) (parts-ticked (opened h) (number_of t) j (opens.each j heavy-j).proper) count;
      }

-- BOTH TOGETHER
pub together-comes : {i j : ℕ} {h : House} {a b : ℕ} → Together i j h a b → Comes h
together-comes (begins c _) = c
together-comes (called c s _) = Comes.called c (together-comes s)
together-comes (ran t k s m _) = Comes.ran t k (together-comes s) m

pub together-running : (i j : ℕ) {h : House} {a b : ℕ} → Together i j h a b → (a ≡ 0) ⊎ Running i j h a b
together-running i j (begins c _) = inl refl
together-running i j (called {h} {a} {b} c s e) =
    ⊎_elim inl (λ r. let both = spares-both i j c (T_true (ends_none i j c) e) in
    inr (running-untouched i j h a b (calls c h) (call-spares h i r.heavy-i c both.0) (call-spares h j r.heavy-j c both.1) r)) (together-running i j s)
together-running i j (ran {h} {a} {b} t k s m w) =
    let both = and_parts (fair_wants (opened h) i) (fair_wants (opened h) j) (T_true _ w) in
    inr (running-after i j h (positions-come (together-comes s)) a b t k m both.0 both.1 (together-running i j s))

-- strictly, and so less by whatever divides both weights
pub strictly-nearer : (i j : ℕ) (h : House) (a b : ℕ) → Together i j h a b → 0 < weight_of (h.place i) →
    a * weight_of (h.place j) < b * weight_of (h.place i) + 2 * weight_of (h.place i) + weight_of (h.place j)
strictly-nearer i j h a b s heavy = bound-so-far i j h (positions-come (together-comes s)) a b heavy (together-running i j s)

pub nearer-each-other : (i j : ℕ) (h : House) (a b : ℕ) → Together i j h a b → a * weight_of (h.place j) ≤ b * weight_of (h.place i) + 2 * weight_of (h.place i) + weight_of (h.place j)
nearer-each-other i j h a b s =
    ⊎_elim (λ e. rw e (omega arith)) (λ r. omega (arith, r.counted.bound)) (together-running i j s)

pub near-each-other : NearEachOther
near-each-other i j h a b s = omega (arith, nearer-each-other i j h a b s)
