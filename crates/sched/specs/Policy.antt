-- Which of the due tasks has the tick, so that quotas are had: the rules leave it open, and ask that they are.
-- Assumes nothing.
use Rattle.std.specs.Prelude.{◌≡◌, ℕ, suc, ◌-◌, ◌<◌, ◌≤◌, Bool, cond, ◌&&◌, T, Option, ◌==◌}
use Rattle.sched.specs.declared.Call.{Call}
use Rattle.sched.specs.House.{House, empty, calls, opened, after, due, runner, may_take, may_rest, kept, number_of}
use Rattle.sched.specs.Windows.{ends_of, is_whole}

-- a due task that has wanted every tick of its window
abbrev pub whole_due : House → ℕ → Bool
whole_due h i = due h i && is_whole (h.window i)

-- Whole windows first, and of these the earliest end: if j is due and its window whole, the tick is some i's that is due,
-- whose window is whole too and ends no later.
pub record WholeFirst (h : House) (t : Option ℕ) : Type 0 where
  pub first : (j : ℕ) → j < 64 → T (whole_due (opened h) j) →
      (i : ℕ) × (number_of t ≡ suc i) × T (whole_due (opened h) i) × (ends_of ((opened h).window i) ≤ ends_of ((opened h).window j))

-- the tick may be t's, and j runs in it: as `may_run`, but it isn't asked that quotas are had
abbrev pub may_have : House → Option ℕ → ℕ → Bool
may_have h t j =
    cond (number_of t == 0) (may_rest (opened h)) (may_take (opened h) (number_of t - 1) && j == runner 64 h (number_of t - 1))

-- what can have come about under the policy, whatever is called
pub data Follows : House → Type 0 where
  begin : Follows empty
  called : {h : House} (c : Call) → Follows h → Follows (calls c h).house
  ran : {h : House} (t : Option ℕ) (j : ℕ) → Follows h → T (may_have h t j) → WholeFirst h t → Follows (after h t)

-- Under the policy quotas are had, at every tick: what the rules ask of it need not be tested.
abbrev pub QuotasHad : Type 0
QuotasHad = (h : House) → Follows h → (t : Option ℕ) (j : ℕ) → T (may_have h t j) → WholeFirst h t → T (kept (opened h) (number_of t))
