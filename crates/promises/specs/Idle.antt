-- The processor rests only if nobody is owed the tick.
use Rattle.std.specs.Prelude.{ℕ, ◌≤◌, T, None}
use Rattle.sched.specs.House.{House, is_reserved, quota_of, got_of, wants, may_run, opened}
use Rattle.sched.specs.Promise.{Comes}

-- Whoever wants a tick that is nobody's is a reserved task that has had its quota of its window.
abbrev pub IdleOnlyIfUnwanted : Type 0
IdleOnlyIfUnwanted =
    (h : House) → Comes h → (j : ℕ) → T (may_run h None j) → (i : ℕ) → T (wants h i) → T (is_reserved (h.place i)) × (quota_of (h.place i) ≤ got_of ((opened h).window i))
