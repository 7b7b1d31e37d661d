-- A reserved task that wants has its quota in each window.
-- Assumes nothing.
use Rattle.std.specs.Prelude.{◌≡◌, ℕ, ◌+◌, ◌<◌, T, Option}
use Rattle.sched.specs.declared.Kind.TheVariants.{Reserved}
use Rattle.sched.specs.declared.Call.{Call}
use Rattle.sched.specs.House.{House, A, Shut, is_task, wants, calls, after}
use Rattle.sched.specs.Promise.{mine}
use Rattle.sched.specs.Policy.{Follows, WholeFirst, may_have}

-- Under the policy i, reserved with q of p, has no window open, so that the next tick which it wants opens one; from there on it
-- wants n ticks in a row, of which it has a. Meanwhile whatever is called, but that i is ended.
pub data Wanting (i q p : ℕ) : House → (n a : ℕ) → Type 0 where
  begins : {h : House} → Follows h → h.place i ≡ A (Reserved q p) → h.window i ≡ Shut → Wanting i q p h 0 0
  called : {h : House} {n a : ℕ} (c : Call) → Wanting i q p h n a → T (is_task ((calls c h).house.place i)) → Wanting i q p (calls c h).house n a
  ran : {h : House} {n a : ℕ} (t : Option ℕ) (j : ℕ) → Wanting i q p h n a → T (may_have h t j) → WholeFirst h t → T (wants h i) →
      Wanting i q p (after h t) (n + 1) (a + mine i t)

-- after p of them it has had q, no fewer and no more
abbrev pub ReservedHas : Type 0
ReservedHas = (i q p : ℕ) (h : House) (a : ℕ) → i < 64 → Wanting i q p h p a → a ≡ q
