-- Fairness, closer than it is promised.
-- Assumes nothing.
use Rattle.std.specs.Prelude.{ℕ, ◌+◌, ◌*◌, ◌≤◌}
use Rattle.sched.specs.House.{House, weight_of}
use Rattle.sched.specs.Promise.{Together}

-- Of two fair tasks of weights v and w that have both wanted every tick since both began to, the one had a and the other b: a·w is at most b·v + 2·v + w.
abbrev pub NearerEachOther : Type 0
NearerEachOther =
    (i j : ℕ) (h : House) (a b : ℕ) → Together i j h a b → a * weight_of (h.place j) ≤ b * weight_of (h.place i) + 2 * weight_of (h.place i) + weight_of (h.place j)
