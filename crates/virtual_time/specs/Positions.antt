-- Positions in virtual time as plain numbers: f wholes and r parts of the weight o.
-- The formulas are those by which the scheduler's rules place a fair task.
use Rattle.std.specs.Prelude.{ℕ, ◌+◌, ◌-◌, ◌*◌, ◌/◌, ◌%◌, min, Bool, cond, ◌&&◌, ◌||◌, ◌==◌, nat_lt}

-- Wholes are counted up to this many, and stay there.
abbrev pub capped : ℕ → ℕ
capped f = min f 4294967295

-- Whether the first position is behind the second: fewer wholes, or as many and a lesser rest, compared by products.
abbrev pub less_far : (f r o : ℕ) → (g s p : ℕ) → Bool
less_far f r o g s p = nat_lt f g || (f == g && nat_lt (r * p) (s * o))

-- A TICK ON: one part, and the last part makes a whole.
abbrev pub wraps : (r o : ℕ) → Bool
wraps r o = r + 1 == o

abbrev pub ticked_far : (f r o : ℕ) → ℕ
ticked_far f r o = cond (wraps r o) (f + 1) f

abbrev pub ticked_rest : (r o : ℕ) → ℕ
ticked_rest r o = cond (wraps r o) 0 (r + 1)

-- IN PARTS OF ANOTHER WEIGHT w. The rest, rounded up.
abbrev pub up_rest : (r o w : ℕ) → ℕ
up_rest r o w = (r * w + (o - 1)) / o

-- Where a task of weight w stands that comes back: at the position, or just beyond.
abbrev pub joined_far : (f r o w : ℕ) → ℕ
joined_far f r o w = cond (nat_lt (up_rest r o w) w) f (f + 1)

abbrev pub joined_rest : (r o w : ℕ) → ℕ
joined_rest r o w = cond (nat_lt (up_rest r o w) w) (up_rest r o w) 0

-- Where a task of weight w stands that is made: one part beyond.
abbrev pub made_parts : (r o w : ℕ) → ℕ
made_parts r o w = (r * w + (o - 1)) / o + 1

abbrev pub made_far : (f r o w : ℕ) → ℕ
made_far f r o w = f + made_parts r o w / w

abbrev pub made_rest : (r o w : ℕ) → ℕ
made_rest r o w = made_parts r o w % w

-- LOWERED by so many wholes: whoever has not come so far stands at 0.
abbrev pub lowered_far : (f by : ℕ) → ℕ
lowered_far f by = f - by

abbrev pub lowered_rest : (f r by : ℕ) → ℕ
lowered_rest f r by = cond (nat_lt f by) 0 r
