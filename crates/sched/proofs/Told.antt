-- A call that is turned away, and one that is granted: the answer and the house of the rules, and what is stored.
use Rattle.std.proofs.Common.{◌≡◌, ℕ, ◌<◌, true, ltb, Result, Ok, Err, IsErrAnd, Option, Some, None, sym, refl, ap, ◌∙◌, subst}
use Rattle.std.specs.Option.{ok_or}
use Rattle.std.proofs.lemmas.Bool.{and_from, lt-ltb}
use Rattle.sched.specs.declared.Scheduler.{Scheduler}
use Rattle.sched.specs.declared.Call.{Call}
use Rattle.sched.specs.declared.Answer.{Answer}
use Rattle.sched.specs.declared.refusal.Refusal.{Refusal}
use Rattle.sched.specs.Called.{Told, Called}
use Rattle.sched.specs.Refusals.{refused_by}
use Rattle.sched.specs.House.{House, Out, out, is_task, is_a, is_nobody, share_of, new_at, some', first, sum, calls}
use Rattle.sched.specs.Promise.{called}
use Rattle.sched.specs.Stores.{place_at, Locked, Stores, Holds}
use Rattle.sched.proofs.Bounded.{some_same, first-same}
use Rattle.sched.proofs.Sums.{sum_same}
use Rattle.sched.proofs.model.Quotas.{quotas-call}

module _ (s t : Scheduler) (c : Call) (r : Answer) where
  pub granted : (next : House → House) → ((h : House) → Holds s h → calls c h ≡ out r (next h)) → ((h : House) → Holds s h → Stores t (next h)) → Told s t c r
  granted next outcome stored h k =
      let e = outcome h k in (
        sym (ap (λ (o : Out). o.answer) e),
        record {
          comes = called c k.comes;
          quotas = quotas-call h c k.quotas;
          stores = subst (λ (o : Out). Stores t o.house) (sym e) (stored h k);
        },
      )

-- what holds of two numbers holds of their equals
pub at_both : (P : ℕ → ℕ → Type 0) {a b x y : ℕ} → a ≡ x → b ≡ y → P a b → P x y
at_both P {b = b} {x = x} e f p = subst (λ m. P x m) f (subst (λ n. P n b) e p)

module _ {A : Type 0} {grants : A → Answer} {s : Scheduler} {c : Call} where
  -- turned away for k: nothing has changed
  pub refused-for : (k : Refusal) → ((h : House) → Holds s h → calls c h ≡ out (refused_by k) h) → Called grants s s c (Err k)
  refused-for k outcome = record {
    answered = granted s s c (refused_by k) (λ h. h) outcome (λ h holds. holds.stores);
    refused = refl;
  }

  -- the same, by way of a `?`
  pub turned-away : {r : Result A Refusal} {e : Refusal} (k : Refusal) → IsErrAnd r (λ y. y ≡ e) → e ≡ k → ((h : House) → Holds s h → calls c h ≡ out (refused_by k) h) → Called grants s s c r
  turned-away {r = Ok x} k err why outcome = absurd err
  turned-away {r = Err y} k err why outcome =
      subst (λ e. Called grants s s c (Err e)) (sym (err ∙ why)) (refused-for k outcome)

  pub went-through : {t : Scheduler} (x : A) (next : House → House) → ((h : House) → Holds s h → calls c h ≡ out (grants x) (next h)) → ((h : House) → Holds s h → Stores t (next h)) → Called grants s t c (Ok x)
  went-through {t = t} x next outcome stored = record { answered = granted s t c (grants x) next outcome stored; refused = tt }

-- what `ok_or` made an error of
pub ok_or-err : {T E : Type 0} (o : Option T) {d e : E} → (let r : Result T E = Err d in r ≡ ok_or o e) → (o ≡ None) × (d ≡ e)
ok_or-err None w = (refl, cc)
ok_or-err (Some y) w = cc

module _ (s : Scheduler) (h : House) (k : Holds s h) where
  pub holds-locked : Locked s.locks h
  holds-locked = record { comes = k.comes; owners = k.stores.owners; rows = k.stores.rows }

  pub is-task : (i : ℕ) → i < 64 → is_task (place_at s.tasks.slots i) ≡ true → is_a h i ≡ true
  is-task i l e = and_from (ltb i 64) (is_task (h.place i)) (lt-ltb i 64 l) (ap is_task (sym (k.stores.slots.at i)) ∙ e)

  -- free places and shares are those of the house
  pub free-told : some' 64 (λ i. is_nobody (place_at s.tasks.slots i)) ≡ some' 64 (λ i. is_nobody (h.place i))
  free-told = some_same _ _ 64 (λ i _. ap is_nobody (k.stores.slots.at i))

  pub new-place-told : first 64 (λ i. is_nobody (place_at s.tasks.slots i)) ≡ new_at h
  new-place-told = first-same _ _ 64 (λ i _. ap is_nobody (k.stores.slots.at i))

  pub shares-told : sum 64 (λ i. share_of (place_at s.tasks.slots i)) ≡ sum 64 (λ i. share_of (h.place i))
  shares-told = sum_same 64 _ _ (λ i _. ap share_of (k.stores.slots.at i))
