-- A task that holds locks and waits for nothing: it took each where it was free, neither others nor ticks take one away, and it can give them back.
use Rattle.std.proofs.Common.{◌≡◌, ℕ, suc, ◌-◌, ◌<◌, Bool, true, false, ◌&&◌, eqb, ltb, List, [], ◌∷◌, ◌++◌, Option, sym, refl, ap, ◌∙◌, subst, inl, inr, arith}
use Rattle.std.proofs.lemmas.Bool.{and_from, eq-eqb, eqb-true, eqb-false, not_from_true, or_from, lt-leb, cond_both, false≢true, true≢false}
use Rattle.queues.specs.Members.{Member}
use Rattle.sched.specs.declared.Call.{Call}
use Rattle.sched.specs.declared.Call.TheVariants.{Make, End, Wake, Sleep, Lock, Unlock}
use Rattle.sched.specs.declared.Answer.TheVariants.{Done, No}
use Rattle.sched.specs.House.{House, Place, Nobody, A, Kept, Window, Shut, Open, Out, out, no, put, is_task, is_a, first_of, rest_of, calls, freed, after}
use Rattle.sched.specs.Held.{can_take, Held, HeldAll, Keeps, Taken, GivenBack, returned, concerns}
use Rattle.sched.specs.Refusals.{is_no}
use Rattle.sched.proofs.Puts.{put-at, put-else, put_both}
use Rattle.sched.proofs.model.CallWays.{EachWay, each_way, takes}
use Rattle.sched.proofs.model.Outcomes.{gives, lock-takes, unlock-done}

-- both, of two tests that pass together
and-true : (x y : Bool) → (x && y) ≡ true → (x ≡ true) × (y ≡ true)
and-true true y e = (refl, e)
and-true false y e = absurd (false≢true e)

-- the four that a lock is asked for with
pub can-take-parts : (h : House) (i m : ℕ) → can_take h i m ≡ true → (is_a h i ≡ true) × (h.waits i ≡ 0) × (h.awake i ≡ true) × (h.owner m ≡ 0)
can-take-parts h i m e =
    let there = and-true _ _ e in
    let runs = and-true _ _ there.1 in
    let up = and-true _ _ runs.1 in
    (there.0, eqb-true _ _ runs.0, up.0, eqb-true _ _ up.1)

-- THE TEST, of a task that is there, awake and waits for nothing
pub can-if-free : (h : House) (i m : ℕ) → is_a h i ≡ true → eqb (h.waits i) 0 ≡ true → h.awake i ≡ true → can_take h i m ≡ eqb (h.owner m) 0
can-if-free h i m a w u = rw (a, w, u) refl

module _ (h : House) (i m : ℕ) (l : m < 64) where
  -- a free lock is taken at once
  pub free-takes : can_take h i m ≡ true → calls (Lock i m) h ≡ out Done (takes i m h)
  free-takes e =
      let p = can-take-parts h i m e in
      lock-takes h i m p.0 (lt-leb 64 m l) (or_from _ _ (not_from_true _ (eq-eqb _ _ p.1)) (not_from_true _ p.2)) (eq-eqb _ _ p.3)

  -- a lock that it holds is given back
  pub held_gives : Held h i m → calls (Unlock i m) h ≡ out Done (gives m h)
  held_gives k = unlock-done h i m k.task (lt-leb 64 m l) (not_from_true _ (eq-eqb _ _ k.runs)) (eq-eqb _ _ k.owns)

-- ALL LOCKS THAT A TASK HOLDS, one by one
pub one-held : (h : House) (i : ℕ) (ms : List ℕ) → HeldAll h i ms → (n : ℕ) → Member n ms → Held h i n
one-held h i [] k n x = absurd x
one-held h i (m ∷ ms) k n (inl e) = subst (Held h i) (sym e) k.0
one-held h i (m ∷ ms) k n (inr x) = one-held h i ms k.2 n x

each-held : (h g : House) (i : ℕ) (ms : List ℕ) → ((n : ℕ) → Member n ms → Held h i n → Held g i n) → HeldAll h i ms → HeldAll g i ms
each-held h g i [] keep k = tt
each-held h g i (m ∷ ms) keep k = (keep m (inl refl) k.0, k.1, each-held h g i ms (λ n x. keep n (inr x)) k.2)

pub takes-taken : (h : House) (i m : ℕ) → can_take h i m ≡ true → Taken h (takes i m h) i m
takes-taken h i m e =
    let p = can-take-parts h i m e in
    record {
      free = p.3;
      held = λ ms all. (
        record { task = p.0; runs = p.1; owns = put-at m (suc i) h.owner },
        λ x. let owned = (one-held h i ms all m x).owns in omega (arith, p.3, owned),
        each-held h (takes i m h) i ms (λ n _ k. record { task = k.task; runs = k.runs; owns = put_both m (suc i) h.owner n (λ o. o ≡ suc i) (λ _. refl) (λ _. k.owns) }) all,
      );
      rows = refl;
    }

-- whoever is handed a lock waits no more, and nobody else's waiting changes
gives-runs : (h : House) (i m : ℕ) → h.waits i ≡ 0 → (gives m h).waits i ≡ 0
gives-runs h i m e =
    cond_both (eqb (first_of (h.row m)) 0) h.waits (put (first_of (h.row m) - 1) 0 h.waits) (λ w. w i ≡ 0) (λ _. e) (λ _. put_both (first_of (h.row m) - 1) 0 h.waits i (λ n. n ≡ 0) (λ _. refl) (λ _. e))

-- ONE LOCK is given back, and the task's others stay its own
module _ (h : House) (i m : ℕ) where
  stays : (n : ℕ) → (n ≡ m → ⊥) → Held h i n → Held (gives m h) i n
  stays n apart k =
      record { task = k.task; runs = gives-runs h i m k.runs; owns = put-else m (first_of (h.row m)) h.owner n apart ∙ k.owns }

  all_stay : (ns : List ℕ) → (Member m ns → ⊥) → HeldAll h i ns → HeldAll (gives m h) i ns
  all_stay ns apart = each-held h (gives m h) i ns (λ n x. stays n (λ e. apart (subst (λ l. Member l ns) e x)))

  -- and then the rest of them
  before : (ms : List ℕ) (g : House) → (Member m ms → ⊥) → GivenBack (gives m h) g i ms → GivenBack h g i (m ∷ ms)
  before ms g apart back =
      record {
        next = λ n x. elim x [ inl e ↦ subst (λ l. g.owner l ≡ first_of (h.row l)) (sym e) (back.others m apart ∙ put-at m (first_of (h.row m)) h.owner) | inr y ↦ back.next n y ∙ ap first_of (put-else m (rest_of (h.row m)) h.row n (λ e. apart (subst (λ l. Member l ms) e y))) ];
        others = λ n out. back.others n (λ x. out (inr x)) ∙ put-else m (first_of (h.row m)) h.owner n (λ e. out (inl e));
        rows = λ n out. back.rows n (λ x. out (inr x)) ∙ put-else m (rest_of (h.row m)) h.row n (λ e. out (inl e));
        rest = λ ns k. back.rest ns (all_stay (ms ++ ns) k.1 k.2);
      }

-- ALL are given back, one after another
pub gives_back : (i : ℕ) (ms : List ℕ) (h : House) → ((n : ℕ) → Member n ms → n < 64) → HeldAll h i ms → GivenBack h (returned h i ms) i ms
gives_back i [] h low k = record { next = λ n x. absurd x; others = λ n _. refl; rows = λ n _. refl; rest = λ ns k. k }
gives_back i (m ∷ ms) h low k =
    let back = gives_back i ms (gives m h) (λ n x. low n (inr x)) (all_stay h i m ms k.1 k.2) in
    subst (λ (o : Out). GivenBack h (returned o.house i ms) i (m ∷ ms)) (sym (held_gives h i m (low m (inl refl)) k.0)) (before h i m ms (returned (gives m h) i ms) k.1 back)

-- A TICK frees a kept place, and never a task's
stays-task : (w : Window) (p : Place) → is_task p ≡ true → is_task (freed w p) ≡ true
unfolding is_task freed
stays-task Shut Nobody e = e
stays-task Shut (A k) e = refl
stays-task Shut (Kept q p) e = absurd (false≢true e)
stays-task (Open n g b) p e = e

pub tick-keeps : (h : House) (i : ℕ) (t : Option ℕ) → Keeps h (after h t) i
tick-keeps h i t ms =
    each-held h (after h t) i ms (λ n _ k.
    let there = and-true _ _ k.task in
    record { task = and_from _ _ there.0 (stays-task _ (h.place i) there.1); runs = k.runs; owns = k.owns })

-- CALLS OF OTHERS
module _ (h : House) (i n : ℕ) (k : Held h i n) where
  abbrev Still : Call → Out → Type 0
  Still c o = concerns i c ≡ false → Held o.house i n

  task : is_task (h.place i) ≡ true
  task = (and-true _ _ k.task).1

  below : ltb i 64 ≡ true
  below = (and-true _ _ k.task).0

  -- the place of another may change
  placed : (j : ℕ) (p : Place) → (i ≡ j → is_task p ≡ true) → (ltb i 64 && is_task (put j p h.place i)) ≡ true
  placed j p here = and_from _ _ below (put_both j p h.place i (λ x. is_task x ≡ true) here (λ _. task))

  still-held : EachWay h Still
  unfolding is_task
  still-held =
      record {
        refused = λ _ _. k;
        make = λ j x _ _ _ _ _ _. record { task = placed j (A x) (λ _. refl); runs = k.runs; owns = k.owns };
        end = λ j _ _ _ _ other. record { task = placed j _ (λ e. absurd (eqb-false j i other (sym e))); runs = k.runs; owns = k.owns };
        wake = λ _ _ _ _. record { task = k.task; runs = k.runs; owns = k.owns };
        sleep = λ _ _ _ _ _. record { task = k.task; runs = k.runs; owns = k.owns };
        take = λ j m _ _ _ _ _ free _. record {
          task = k.task;
          runs = k.runs;
          owns = put_both m (suc j) h.owner n (λ o. o ≡ suc i) (λ e. absurd (omega (arith, free, subst (λ x. h.owner x ≡ suc i) e k.owns))) (λ _. k.owns);
        };
        queue = λ j m _ _ _ _ _ _ _ other. record {
          task = k.task;
          runs = put_both j (suc m) h.waits i (λ w. w ≡ 0) (λ e. absurd (eqb-false j i other (sym e))) (λ _. k.runs);
          owns = k.owns;
        };
        free = λ j m _ _ _ _ owns _ other. record {
          task = k.task;
          runs = k.runs;
          owns = put_both m 0 h.owner n (λ o. o ≡ suc i) (λ e. absurd (eqb-false j i other (omega (arith, owns, subst (λ x. h.owner x ≡ suc i) e k.owns)))) (λ _. k.owns);
        };
        pass = λ j m b bs _ _ _ _ owns _ other. record {
          task = k.task;
          runs = put_both b 0 h.waits i (λ w. w ≡ 0) (λ _. refl) (λ _. k.runs);
          owns = put_both m (suc b) h.owner n (λ o. o ≡ suc i) (λ e. absurd (eqb-false j i other (omega (arith, owns, subst (λ x. h.owner x ≡ suc i) e k.owns)))) (λ _. k.owns);
        };
      }

-- a call that doesn't concern the task leaves it what it holds
pub others_keep : (h : House) (i : ℕ) (c : Call) → concerns i c ≡ false → Keeps h (calls c h).house i
others_keep h i c other ms = each-held h (calls c h).house i ms (λ n _ k. each_way h (Still h i n k) (still-held h i n k) c other)

-- A lock that isn't free: whoever is told that its asking is done stands last in the row.
abbrev Queued : House → Call → Out → Type 0
Queued h (Make k) o = Unit {0}
Queued h (End j) o = Unit {0}
Queued h (Wake j) o = Unit {0}
Queued h (Sleep j) o = Unit {0}
Queued h (Lock j m) o = o.answer ≡ Done → (h.owner m ≡ 0 → ⊥) → o.house.row m ≡ h.row m ++ (j ∷ [])
Queued h (Unlock j m) o = Unit {0}

not_done : (n : ℕ) {X : Type 0} → No n ≡ Done → X
not_done n e = absurd (true≢false (ap is_no e))

pub asks-queues : (h : House) (j m : ℕ) → (calls (Lock j m) h).answer ≡ Done → (h.owner m ≡ 0 → ⊥) → (calls (Lock j m) h).house.row m ≡ h.row m ++ (j ∷ [])
asks-queues h j m = each_way h (Queued h) ways (Lock j m)
  where
    refuse : (c : Call) (n : ℕ) → Queued h c (no n h)
    refuse (Make k) n = tt
    refuse (End i) n = tt
    refuse (Wake i) n = tt
    refuse (Sleep i) n = tt
    refuse (Lock i p) n = λ e _. not_done n e
    refuse (Unlock i p) n = tt

    ways : EachWay h (Queued h)
    ways =
        record {
          refused = λ {c} n. refuse c n;
          make = λ _ _ _ _ _ _ _. tt;
          end = λ _ _ _ _ _. tt;
          wake = λ _ _ _. tt;
          sleep = λ _ _ _ _. tt;
          take = λ i p _ _ _ _ _ free _ owned. absurd (owned free);
          queue = λ i p _ _ _ _ _ _ _ _ _. put-at p (h.row p ++ (i ∷ [])) h.row;
          free = λ _ _ _ _ _ _ _ _. tt;
          pass = λ _ _ _ _ _ _ _ _ _ _. tt;
        }
