-- Fairness, closer still: a bound that is strict leaves a common divisor of the weights to spare.
-- Assumes nothing.
use Rattle.std.specs.Prelude.{◌≡◌, ℕ, ◌+◌, ◌*◌, ◌<◌, ◌≤◌}
use Rattle.sched.specs.House.{House, weight_of}
use Rattle.sched.specs.Promise.{Together}

-- Of two fair tasks of weights v and w that have both wanted every tick since both began to, the one had a and the other b,
-- and d divides both weights: a·w is at most b·v + 2·v + w - d. So of two of one weight neither is ever more than two ticks ahead.
abbrev pub NearestEachOther : Type 0
NearestEachOther =
    (i j : ℕ) (h : House) (a b : ℕ) → Together i j h a b → (d m n : ℕ) → 0 < weight_of (h.place i) → weight_of (h.place i) ≡ m * d → weight_of (h.place j) ≡ n * d →
    a * weight_of (h.place j) + d ≤ b * weight_of (h.place i) + 2 * weight_of (h.place i) + weight_of (h.place j)

abbrev pub EqualsKeepPace : Type 0
EqualsKeepPace =
    (i j : ℕ) (h : House) (a b : ℕ) → Together i j h a b → 0 < weight_of (h.place i) → weight_of (h.place i) ≡ weight_of (h.place j) → a ≤ b + 2
