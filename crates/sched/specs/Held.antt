-- Locks that are held: when one may be taken at once, that a task has them, and what comes of giving them back.
-- Assumes nothing.
use Rattle.std.specs.Prelude.{◌≡◌, ℕ, suc, Bool, true, false, ◌&&◌, T, List, [], ◌∷◌, ◌++◌, reverse, Option, None, Some, ◌==◌}
use Rattle.arrayvec.specs.ArrayVec.{ArrayVec}
use Rattle.queues.specs.Members.{Member}
use Rattle.sched.specs.declared.Scheduler.{Scheduler}
use Rattle.sched.specs.declared.Call.{Call}
use Rattle.sched.specs.declared.Call.TheVariants.{Make, End, Wake, Sleep, Lock, Unlock}
use Rattle.sched.specs.declared.Answer.{Answer}
use Rattle.sched.specs.House.{House, is_a, first_of, calls, may_run, after}
use Rattle.sched.specs.Stores.{Holds}

-- the lock is free; the task is there, waits for nothing and is awake
abbrev pub can_take : House → ℕ → ℕ → Bool
can_take h i m = is_a h i && (h.waits i == 0 && (h.awake i && h.owner m == 0))

-- so it is in whatever house the scheduler stands for
abbrev pub Ready : Scheduler → ℕ → ℕ → Type 0
Ready s i m = (h : House) → Holds s h → can_take h i m ≡ true

-- the locks of a guard, the last that was taken first
abbrev pub locks_of : ArrayVec ℕ → List ℕ
locks_of v = reverse v.items

-- the task has the lock, and waits for nothing: giving it back can't be refused
pub record Held (h : House) (i m : ℕ) : Type 0 where
  pub task : is_a h i ≡ true
  pub runs : h.waits i ≡ 0
  pub owns : h.owner m ≡ suc i

-- the task has the locks, each of them once
abbrev pub HeldAll : House → ℕ → List ℕ → Type 0
HeldAll h i [] = Unit {0}
HeldAll h i (m ∷ ms) = Held h i m × (Member m ms → ⊥) × HeldAll h i ms

-- what the task held it holds still
abbrev pub Keeps : House → House → ℕ → Type 0
Keeps h g i = (ms : List ℕ) → HeldAll h i ms → HeldAll g i ms

-- the lock was free and is the task's, beside those that it held; rows are as they were
pub record Taken (h g : House) (i m : ℕ) : Type 0 where
  pub free : h.owner m ≡ 0
  pub held : (ms : List ℕ) → HeldAll h i ms → HeldAll g i (m ∷ ms)
  pub rows : g.row ≡ h.row

-- the house in which the locks are given back, one after another
abbrev pub returned : House → ℕ → List ℕ → House
returned h i [] = h
returned h i (m ∷ ms) = returned (calls (Unlock i m) h).house i ms

-- each lock is the next one's in its row, or free if there is none; all others are as they were, and the task's stay its own
pub record GivenBack (h g : House) (i : ℕ) (ms : List ℕ) : Type 0 where
  pub next : (m : ℕ) → Member m ms → g.owner m ≡ first_of (h.row m)
  pub others : (n : ℕ) → (Member n ms → ⊥) → g.owner n ≡ h.owner n
  pub rows : (n : ℕ) → (Member n ms → ⊥) → g.row n ≡ h.row n
  pub rest : (ns : List ℕ) → HeldAll h i (ms ++ ns) → HeldAll g i ns

-- the task that makes a call, or that it is about
abbrev pub task_of : Call → Option ℕ
task_of (Make k) = None
task_of (End i) = Some i
task_of (Wake i) = Some i
task_of (Sleep i) = Some i
task_of (Lock i m) = Some i
task_of (Unlock i m) = Some i

-- a call that the task itself makes, or that is about it
abbrev pub concerns : ℕ → Call → Bool
concerns i (Make k) = false
concerns i (End j) = j == i
concerns i (Wake j) = j == i
concerns i (Sleep j) = j == i
concerns i (Lock j m) = j == i
concerns i (Unlock j m) = j == i

-- THE SCHEDULER, FROM s TO t. The lock that was free is the task's.
abbrev pub Took : (s t : Scheduler) (i m : ℕ) → Type 0
Took s t i m =
    (h : House) → Holds s h → Holds t (calls (Lock i m) h).house × Taken h (calls (Lock i m) h).house i m

-- The locks are asked to be given back.
abbrev pub Unlocked : (s t : Scheduler) (i : ℕ) → List ℕ → Type 0
Unlocked s t i ms = (h : House) → Holds s h → Holds t (returned h i ms)

-- The locks that the task had are given back: none of them is refused.
abbrev pub Gave : (s t : Scheduler) (i : ℕ) → List ℕ → Type 0
Gave s t i ms =
    (h : House) → Holds s h → HeldAll h i ms → Holds t (returned h i ms) × GivenBack h (returned h i ms) i ms

-- A call of others: what the task held it holds still.
abbrev pub Let : (s t : Scheduler) (i : ℕ) → Call → Answer → Type 0
Let s t i c a = (h : House) → Holds s h → (a ≡ (calls c h).answer) × Holds t (calls c h).house × Keeps h (calls c h).house i

-- A tick: what the task held it holds still.
abbrev pub Ticked : (s t : Scheduler) (i : ℕ) → Option ℕ → ℕ → Type 0
Ticked s t i whose runs =
    (h : House) → Holds s h → T (may_run h whose runs) × Holds t (after h whose) × Keeps h (after h whose) i
