-- A call, from the scheduler before it to the one after: what it comes to.
-- Assumes nothing.
use Rattle.std.specs.Prelude.{◌≡◌, ℕ, Bool, not, ◌==◌, Result, Ok, Err, OnErr}
use Rattle.quantities.specs.Ids.{TaskId}
use Rattle.sched.specs.declared.Scheduler.{Scheduler}
use Rattle.sched.specs.declared.Call.{Call}
use Rattle.sched.specs.declared.Answer.{Answer}
use Rattle.sched.specs.declared.Answer.TheVariants.{Done, Id}
use Rattle.sched.specs.declared.refusal.Refusal.{Refusal}
use Rattle.sched.specs.House.{House, is_a, calls}
use Rattle.sched.specs.Refusals.{refused_by}
use Rattle.sched.specs.Stores.{Holds}

-- a is the answer of the rules, and the house is as they leave it
abbrev pub Told : (s t : Scheduler) → Call → Answer → Type 0
Told s t c a = (h : House) → Holds s h → (a ≡ (calls c h).answer) × Holds t (calls c h).house

-- the answer that a result stands for, by what it says where the call is granted
abbrev pub answer_of : {A : Type 0} → (A → Answer) → Result A Refusal → Answer
answer_of granted (Ok x) = granted x
answer_of granted (Err e) = refused_by e

-- nothing more to say
abbrev pub done : Unit {0} → Answer
done u = Done

-- the number of the new task
abbrev pub id_of : TaskId → Answer
id_of i = Id i.index

-- The result stands for the answer of the rules; turned away, the call has changed nothing.
pub record Called {A : Type 0} (granted : A → Answer) (s t : Scheduler) (c : Call) (r : Result A Refusal) : Type 0 where
  pub answered : Told s t c (answer_of granted r)
  pub refused : OnErr r (t ≡ s)

-- whether i is a task, in whatever house the scheduler stands for
abbrev pub There : Scheduler → ℕ → Bool → Type 0
There s i b = (h : House) → Holds s h → is_a h i ≡ b

-- whether i waits for a lock, in whatever house
abbrev pub Waiting : Scheduler → ℕ → Bool → Type 0
Waiting s i b = (h : House) → Holds s h → not (h.waits i == 0) ≡ b
