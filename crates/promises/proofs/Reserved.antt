-- A reserved task that wants p ticks in a row has its quota of them: its window is open and whole all along, has counted its
-- ticks, and nothing is owed in the last.
use Rattle.std.proofs.Common.{◌≡◌, ℕ, zero, suc, ◌+◌, ◌-◌, ◌<◌, ◌≤◌, Bool, true, false, cond, T, eqb, sym, refl, ap, ◌∙◌, subst, inl, inr, arith}
use Rattle.std.proofs.lemmas.Bool.{cases_eq, both_ways}
use Rattle.sched.specs.declared.Kind.{Kind}
use Rattle.sched.specs.declared.Kind.TheVariants.{Reserved}
use Rattle.sched.specs.declared.Call.{Call}
use Rattle.sched.specs.House.{House, Place, Nobody, A, Window, Shut, Open, Out, is_task, is_reserved, quota_of, period_of, got_of, wants, opened, open_with, passed, freed, leaves, number_of, calls}
use Rattle.sched.specs.Windows.{Formed, ends_of}
use Rattle.sched.specs.Quotas.{owed_of}
use Rattle.sched.specs.Policy.{Follows}
use Rattle.sched.proofs.Tests.{T_true}
use Rattle.sched.proofs.Puts.{put-else, put_both}
use Rattle.sched.proofs.model.CallWays.{Ways, call-ways}
use Rattle.sched.proofs.model.Places.{leaves_none}
use Rattle.sched.proofs.model.Windows.{numbers, begun, Entitled, have-entitled}
use Rattle.sched.proofs.model.Quotas.{quotas-last, follows-quotas}
use Rattle.promises.specs.Reserved.{Wanting, begins, called, ran, ReservedHas}

pub wanting-follows : {i q p : ℕ} {h : House} {n a : ℕ} → Wanting i q p h n a → Follows h
wanting-follows (begins f _ _) = f
wanting-follows (called c r _) = Follows.called c (wanting-follows r)
wanting-follows (ran t j r m f _) = Follows.ran t j (wanting-follows r) m f

-- THE WINDOW OF SUCH A TASK: not open yet; open, whole, with its ticks counted; over
data Stage (q p n a : ℕ) (w : Window) : Type 0 where
  fresh : n ≡ 0 → a ≡ 0 → w ≡ Shut → Stage q p n a w
  within : 0 < n → n < p → w ≡ Open (p - n) a true → Stage q p n a w
  over : n ≡ p → a ≡ q → Stage q p n a w
  past : p < n → Stage q p n a w

good_of : {k : Kind} {w : Window} → Formed (A k) w → T (Rattle.sched.specs.House.good k)
good_of (Formed.closed k g) = g
good_of (Formed.running q p e g b k _ _ _) = k

got_of-within : {q p : ℕ} {w : Window} → Formed (A (Reserved q p)) w → got_of w ≤ q
unfolding got_of
got_of-within (Formed.closed k g) = omega arith
got_of-within (Formed.running q p e g b k _ _ l) = l

passed_on : (m : Bool) (e g : ℕ) (b : Bool) → 1 < e → passed m (Open e g b) ≡ Open (e - 1) (g + cond m 1 0) b
unfolding passed
passed_on m zero g b l = absurd (omega arith)
passed_on m (suc zero) g b l = absurd (omega arith)
passed_on true (suc (suc e)) g b l = let s : suc (suc e) - 1 ≡ suc e = omega arith in rw s
passed_on false (suc (suc e)) g b l =
    let s : suc (suc e) - 1 ≡ suc e = omega arith in
    let z : g + 0 ≡ g = omega arith in
    rw (s, z)

open-same : (e e' g g' : ℕ) → e ≡ e' → g ≡ g' → Open e g true ≡ Open e' g' true
open-same e e' g g' p r = rw (p, r)

-- at the end all of the quota was had, and the last tick wasn't needed
all-had : (q a : ℕ) (m : Bool) → (m ≡ true → a < q) → a ≤ q → q - a ≡ 0 → a + cond m 1 0 ≡ q
all-had q a true s l z = let some = s refl in absurd (omega arith)
all-had q a false s l z = omega arith

module _ (q p n a : ℕ) (m : Bool) where
  stage-first : 4 ≤ p → n ≡ 0 → a ≡ 0 → Stage q p (n + 1) (a + cond m 1 0) (passed m (Open p 0 true))
  stage-first l en ea =
      within (omega arith) (omega arith) (passed_on m p 0 true (omega arith) ∙ open-same (p - 1) (p - (n + 1)) (0 + cond m 1 0) (a + cond m 1 0) (omega arith) (omega arith))

  stage-next : (e : ℕ) → 0 < n → n < p → e ≡ p - n → (m ≡ true → a < q) → a ≤ q → (e ≡ 1 → q - a ≡ 0) → Stage q p (n + 1) (a + cond m 1 0) (passed m (Open e a true))
  stage-next e l u is s g z =
      elim (cases_eq e 1) [
        | inl last ↦ over (omega arith) (all-had q a m s g (z last))
        | inr more ↦ within (omega arith) (omega arith) (passed_on m e a true (omega arith) ∙ open-same (e - 1) (p - (n + 1)) (a + cond m 1 0) (a + cond m 1 0) (omega arith) refl)
      ]

  stage-reserved : (w : Window) → Formed (A (Reserved q p)) w → (m ≡ true → Entitled (A (Reserved q p)) (open_with true p w)) → (ends_of (open_with true p w) ≡ 1 → owed_of (A (Reserved q p)) (open_with true p w) ≡ 0) →
      Stage q p n a w → Stage q p (n + 1) (a + cond m 1 0) (passed m (open_with true p w))
  unfolding open_with ends_of owed_of got_of quota_of period_of
  stage-reserved w f s z (fresh en ea ew) = rw ew (stage-first (numbers q p (good_of f)).longer en ea)
  stage-reserved w f s z (within l u ew) =
      let k = numbers q p (good_of f) in
      let s' = rw ew at s in
      rw ew (stage-next (p - n) l u refl (λ e. let some = s' e in omega arith) (got_of-within (rw ew at f)) (rw ew at z))
  stage-reserved w f s z (over en ea) = past (omega arith)
  stage-reserved w f s z (past l) = past (omega arith)

  stage-tick : (pl : Place) (w : Window) (v : Bool) → pl ≡ A (Reserved q p) → v ≡ true → Formed pl w → (m ≡ true → Entitled pl (begun pl w v)) → (ends_of (begun pl w v) ≡ 1 → owed_of pl (begun pl w v) ≡ 0) →
      Stage q p n a w → Stage q p (n + 1) (a + cond m 1 0) (passed m (begun pl w v))
  unfolding is_reserved period_of
  stage-tick pl w v e ev = rw (e, ev) (stage-reserved w)

-- CALLS: one that doesn't end the task leaves its place and window
nobody-none : (p : Place) → p ≡ Nobody → T (is_task p) → ⊥
unfolding is_task
nobody-none p e = rw e (λ t. t)

module _ (h : House) (i : ℕ) (t : T (is_task (h.place i))) where
  abbrev Stays : Out → Type 0
  Stays o = T (is_task (o.house.place i)) → (o.house.place i ≡ h.place i) × (o.house.window i ≡ h.window i)

  stay-ways : Ways h Stays
  stay-ways =
      record {
        refused = λ n _. (refl, refl);
        make = λ n k _ _ e _ _ _.
            let apart : i ≡ n → ⊥ = λ is. nobody-none (h.place i) (ap h.place is ∙ e) t in
            (put-else n (A k) h.place i apart, put-else n Shut h.window i apart);
        end = λ j _ _ _ _.
            put_both j (leaves (h.window j) (h.place j)) h.place i (λ p. T (is_task p) → (p ≡ h.place i) × (h.window i ≡ h.window i))
            (λ _ u. absurd (both_ways (is_task (leaves (h.window j) (h.place j))) (leaves_none (h.window j) (h.place j)) (T_true _ u))) (λ _ _. (refl, refl));
        wake = λ i _ _ _. (refl, refl);
        sleep = λ i _ _ _ _. (refl, refl);
        take = λ i m _ _ _ _ _ _ _. (refl, refl);
        queue = λ i m _ _ _ _ _ _ _ _. (refl, refl);
        free = λ i m _ _ _ _ _ _ _. (refl, refl);
        pass = λ i m j js _ _ _ _ _ _ _. (refl, refl);
      }

  stays : (c : Call) → T (is_task ((calls c h).house.place i)) → ((calls c h).house.place i ≡ h.place i) × ((calls c h).house.window i ≡ h.window i)
  stays c = call-ways h Stays stay-ways c

-- THE SPAN
record Held (i q p : ℕ) (h : House) (n a : ℕ) : Type 0 where
  there : h.place i ≡ A (Reserved q p)
  stage : Stage q p n a (h.window i)

reserved-task : (p : Place) (k : Kind) → p ≡ A k → T (is_task p)
unfolding is_task
reserved-task p k e = rw e tt

task_stays : (w : Window) (p : Place) (k : Kind) → p ≡ A k → freed w p ≡ A k
unfolding freed
task_stays Shut p k e = rw e refl
task_stays (Open d g b) p k e = e

held : {i q p : ℕ} {h : House} {n a : ℕ} → i < 64 → Wanting i q p h n a → Held i q p h n a
held l (begins f e w) = record { there = e; stage = fresh refl refl w }
held {i} {q} {p} {n = n} {a = a} l (called {h = was} c r t) =
    let b = held l r in
    let s = stays was i (reserved-task (was.place i) (Reserved q p) b.there) c t in
    record { there = s.0 ∙ b.there; stage = subst (Stage q p n a) (sym s.1) b.stage }
held {i} {q} {p} l (ran {h = was} {n = n} {a = a} t j r m f v) =
    let b = held l r in
    let k = follows-quotas (wanting-follows r) in
    record {
      there = task_stays (passed (eqb (number_of t) (suc i)) ((opened was).window i)) (was.place i) (Reserved q p) b.there;
      stage = stage-tick q p n a (eqb (number_of t) (suc i)) (was.place i) (was.window i) (wants was i) b.there (T_true (wants was i) v) (k.formed i)
          (have-entitled was t j m i) (quotas-last was i l k) b.stage;
    }

had-all : {q p n a : ℕ} {w : Window} → 0 < p → Stage q p n a w → n ≡ p → a ≡ q
had-all l (fresh e _ _) is = absurd (omega arith)
had-all l (within _ u _) is = absurd (omega arith)
had-all l (over _ e) is = e
had-all l (past u) is = absurd (omega arith)

pub reserved-has : ReservedHas
reserved-has i q p h a l r =
    let b = held l r in
    let f = (follows-quotas (wanting-follows r)).formed i in
    let k = numbers q p (good_of (rw b.there at f)) in
    had-all (omega arith) b.stage (omega arith)
