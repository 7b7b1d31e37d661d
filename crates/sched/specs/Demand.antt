-- Claims on the processor, numbered: each has a share of it, ends in so many ticks and is owed so many until then.
-- Assumes nothing.
use Rattle.std.specs.Prelude.{ℕ, ◌*◌, ◌≤◌, min, cond, nat_le}
use Rattle.sched.specs.House.{sum}

-- what i is owed within d ticks
abbrev pub owed_in : (ends owed : ℕ → ℕ) → (d i : ℕ) → ℕ
owed_in ends owed d i = cond (nat_le (ends i) d) (owed i) 0

-- what i's share comes to within d ticks, in 10,080ths of a tick
abbrev pub comes_in : (share ends : ℕ → ℕ) → (d i : ℕ) → ℕ
comes_in share ends d i = share i * min d (ends i)

-- Shares are three quarters at most, and for every d what is owed within d ticks is no more than what the shares come to within them.
pub record Covered (n : ℕ) (share ends owed : ℕ → ℕ) : Type 0 where
  pub shares : sum n share ≤ 7560
  pub covered : (d : ℕ) → 10080 * sum n (owed_in ends owed d) ≤ sum n (comes_in share ends d)
