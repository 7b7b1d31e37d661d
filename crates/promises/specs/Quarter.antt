-- A quarter is left to fair tasks, as long as some fair one wants each tick and no fixed one does.
-- Assumes nothing.
use Rattle.std.specs.Prelude.{ℕ, ◌+◌, ◌-◌, ◌*◌, ◌≤◌, Bool, cond, not, ◌&&◌, T, Option, nat_lt}
use Rattle.sched.specs.declared.Call.{Call}
use Rattle.sched.specs.House.{House, some', is_fixed, weight_of, wants, fair_wants, calls, opened, may_run, after, number_of}
use Rattle.sched.specs.Promise.{Comes}

abbrev pub fixed_wants : House → ℕ → Bool
fixed_wants h i = is_fixed (h.place i) && wants h i

-- 1 if the tick is a fair task's
abbrev pub fairs : House → Option ℕ → ℕ
fairs h t = cond (nat_lt 0 (number_of t) && nat_lt 0 (weight_of (h.place (number_of t - 1)))) 1 0

-- from a house that can have come about on, n ticks, of which fair tasks together had f; at each some fair task wanted and no fixed one did
pub data Span : House → (n f : ℕ) → Type 0 where
  begins : {h : House} → Comes h → Span h 0 0
  called : {h : House} {n f : ℕ} (c : Call) → Span h n f → Span (calls c h).house n f
  ran : {h : House} {n f : ℕ} (t : Option ℕ) (j : ℕ) → Span h n f → T (may_run h t j) → T (some' 64 (fair_wants (opened h))) → T (not (some' 64 (fixed_wants (opened h)))) →
      Span (after h t) (n + 1) (f + fairs h t)

-- a quarter, less 2 · 7,560 ticks at most, however long the span
abbrev pub QuarterLeft : Type 0
QuarterLeft = (h : House) (n f : ℕ) → Span h n f → n ≤ 4 * (f + 2 * 7560)
