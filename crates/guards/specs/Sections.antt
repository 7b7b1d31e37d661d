-- What becomes of locks that code holds by guards.
-- Assumes nothing.
use Rattle.std.specs.Prelude.{◌≡◌, ℕ, suc, Bool, ◌&&◌, T, Option}
use Rattle.sched.specs.declared.Scheduler.{Scheduler}
use Rattle.sched.specs.declared.Call.TheVariants.{Lock, Unlock}
use Rattle.sched.specs.House.{House, calls, may_run, after}
use Rattle.sched.specs.Held.{can_take}
use Rattle.sched.specs.Stores.{Holds}

-- 5 is to be had at once, and 6 once i has taken 5
abbrev pub to_be_had : House → ℕ → Bool
to_be_had h i = can_take h i 5 && can_take (calls (Lock i 5) h).house i 6

-- i has taken 5, then 6
abbrev pub taken : House → ℕ → House
taken h i = (calls (Lock i 6) (calls (Lock i 5) h).house).house

-- and has given back 6, then 5
abbrev pub given : House → ℕ → House
given h i = (calls (Unlock i 5) (calls (Unlock i 6) (taken h i)).house).house

-- the scheduler stands for that house, in which both are free again
pub record Both (h : House) (i : ℕ) (t : Scheduler) : Type 0 where
  pub holds : Holds t (given h i)
  pub five : (given h i).owner 5 ≡ 0
  pub six : (given h i).owner 6 ≡ 0

-- j asks for 5 while i has it; i gives it back
abbrev pub handed : House → ℕ → ℕ → House
handed h i j = (calls (Unlock i 5) (calls (Lock j 5) (calls (Lock i 5) h).house).house).house

-- the scheduler stands for that house, in which 5 is j's
pub record HandedOn (h : House) (i j : ℕ) (t : Scheduler) : Type 0 where
  pub holds : Holds t (handed h i j)
  pub five : (handed h i j).owner 5 ≡ suc j

-- i has taken 5, then 6, and has given back 6
abbrev pub outer : House → ℕ → House
outer h i = (calls (Unlock i 6) (taken h i)).house

-- then a tick goes by, and i gives back 5
abbrev pub later : House → ℕ → Option ℕ → House
later h i whose = (calls (Unlock i 5) (after (outer h i) whose)).house

-- the tick may be whose it is said to be; 6 is free and 5 is i's meanwhile; at the end both are free
pub record OverTick (h : House) (i : ℕ) (whose : Option ℕ) (runs : ℕ) (t : Scheduler) : Type 0 where
  pub may : T (may_run (outer h i) whose runs)
  pub inner : (outer h i).owner 6 ≡ 0
  pub held : (outer h i).owner 5 ≡ suc i
  pub holds : Holds t (later h i whose)
  pub five : (later h i whose).owner 5 ≡ 0
  pub six : (later h i whose).owner 6 ≡ 0
