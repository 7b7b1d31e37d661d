-- What is drawn after what, way by way.
use Rattle.std.proofs.Common.{◌≡◌, ℕ, ◌+◌, ◌*◌, ◌/◌, ◌%◌, ◌^◌, ◌<◌, ◌≤◌, get_or, refl, ap, ◌∙◌, arith}
use native.Mathlib.Nat.{mod-add-mod}
use Rattle.std.proofs.lemmas.Bool.{lt-ltb, le-ltb, eq-eqb, ne_eqb}
use Rattle.sched.specs.declared.Kind.{Kind}
use Rattle.sched.specs.declared.Kind.TheVariants.{Reserved, Fixed, Fair}
use Rattle.sched.specs.declared.Call.{Call}
use Rattle.sched.specs.declared.Call.TheVariants.{Make, End, Wake, Sleep, Lock, Unlock}
use Rattle.sched.specs.declared.Next.TheVariants.{Calls, Tick}
use Rattle.script.specs.Any.{Drawn, drawn, moved, below, pick, periods, period, kind, lock, call, step}

-- wrapping twice is wrapping once
pub below-is : (x k b : ℕ) → b ≡ k
    → drawn ((x * 6364136223846793005 % 2 ^ 64 + 1442695040888963407) % 2 ^ 64 / 2 ^ 33 % b) ((x * 6364136223846793005 % 2 ^ 64 + 1442695040888963407) % 2 ^ 64) ≡ below k x
unfolding below
below-is x k b e =
    ap (λ y. drawn (y / 2 ^ 33 % b) y) (mod-add-mod (x * 6364136223846793005) (2 ^ 64) 1442695040888963407) ∙ ap (λ n. drawn (moved x / 2 ^ 33 % n) (moved x)) e

module _ (often seldom x d y : ℕ) (e : drawn d y ≡ below 8 x) (r : Drawn ℕ) where
  pub pick-seldom : d ≡ 0 → r ≡ below seldom y → r ≡ pick often seldom x
  unfolding pick
  pick-seldom z h = rw (← e, eq-eqb d 0 z) h

  pub pick-often : (d ≡ 0 → ⊥) → r ≡ below often y → r ≡ pick often seldom x
  unfolding pick
  pick-often ne h = rw (← e, ne_eqb d 0 ne) h

pub period-is : (x d y : ℕ) → drawn d y ≡ below 12 x → drawn (get_or periods d 0) y ≡ period x
unfolding period
period-is x d y e = rw (← e) refl

module _ (x d y : ℕ) (e : drawn d y ≡ below 5 x) where
  pub lock-none : d ≡ 4 → drawn 64 y ≡ lock x
  unfolding lock
  lock-none z = rw (← e, eq-eqb d 4 z) refl

  pub lock-some : (d ≡ 4 → ⊥) → drawn d y ≡ lock x
  unfolding lock
  lock-some ne = rw (← e, ne_eqb d 4 ne) refl

module _ (x d y : ℕ) (e : drawn d y ≡ below 4 x) where
  pub kind-reserved : (p z q v : ℕ) → d < 2 → drawn p z ≡ period y → drawn q v ≡ below (p / 2 + 1) z → drawn (Reserved q p) v ≡ kind x
  unfolding kind
  kind-reserved p z q v l f g = rw (← e, lt-ltb d 2 l, ← f, ← g) refl

  pub kind-fixed : (k z : ℕ) → d ≡ 2 → drawn k z ≡ pick 3 20 y → drawn (Fixed k) z ≡ kind x
  unfolding kind
  kind-fixed k z l f = rw (← e, le-ltb d 2 (omega (arith, l)), eq-eqb d 2 l, ← f) refl

  pub kind-fair : (k z : ℕ) → 2 ≤ d → (d ≡ 2 → ⊥) → drawn k z ≡ pick 4 1100 y → drawn (Fair k) z ≡ kind x
  unfolding kind
  kind-fair k z l ne f = rw (← e, le-ltb d 2 l, ne_eqb d 2 ne, ← f) refl

module _ (d x : ℕ) where
  pub call-make : (k : Kind) (y : ℕ) → d < 34 → drawn k y ≡ kind x → drawn (Make k) y ≡ call d x
  unfolding call
  call-make k y l e = rw (lt-ltb d 34 l, ← e) refl

  pub call-end : (i y : ℕ) → 34 ≤ d → d < 40 → drawn i y ≡ below 72 x → drawn (End i) y ≡ call d x
  unfolding call
  call-end i y l m e = rw (le-ltb d 34 l, lt-ltb d 40 m, ← e) refl

  pub call-wake : (i y : ℕ) → 40 ≤ d → d < 47 → drawn i y ≡ pick 16 80 x → drawn (Wake i) y ≡ call d x
  unfolding call
  call-wake i y l m e = rw (le-ltb d 34 (omega (arith, l)), le-ltb d 40 l, lt-ltb d 47 m, ← e) refl

  pub call-sleep : (i y : ℕ) → 47 ≤ d → d < 49 → drawn i y ≡ pick 16 80 x → drawn (Sleep i) y ≡ call d x
  unfolding call
  call-sleep i y l m e = rw (le-ltb d 34 (omega (arith, l)), le-ltb d 40 (omega (arith, l)), le-ltb d 47 l, lt-ltb d 49 m, ← e) refl

  pub call-lock : (i y m z : ℕ) → 49 ≤ d → d < 52 → drawn i y ≡ below 8 x → drawn m z ≡ lock y → drawn (Lock i m) z ≡ call d x
  unfolding call
  call-lock i y m z l n e f =
      rw (le-ltb d 34 (omega (arith, l)), le-ltb d 40 (omega (arith, l)), le-ltb d 47 (omega (arith, l)), le-ltb d 49 l, lt-ltb d 52 n, ← e, ← f) refl

  pub call-unlock : (i y m z : ℕ) → 52 ≤ d → drawn i y ≡ below 8 x → drawn m z ≡ lock y → drawn (Unlock i m) z ≡ call d x
  unfolding call
  call-unlock i y m z l e f =
      rw (le-ltb d 34 (omega (arith, l)), le-ltb d 40 (omega (arith, l)), le-ltb d 47 (omega (arith, l)), le-ltb d 49 (omega (arith, l)), le-ltb d 52 l, ← e, ← f) refl

module _ (x d y : ℕ) (e : drawn d y ≡ below 64 x) where
  pub step-tick : d < 32 → drawn Tick y ≡ step x
  unfolding step
  step-tick l = rw (← e, lt-ltb d 32 l) refl

  pub step_call : (k : Call) (z : ℕ) → 32 ≤ d → drawn k z ≡ call d y → drawn (Calls k) z ≡ step x
  unfolding step
  step_call k z l f = rw (← e, le-ltb d 32 l, ← f) refl
