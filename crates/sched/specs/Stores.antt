-- What the scheduler keeps, against the house of the rules: each array beside the function that it stands for.
-- Assumes nothing.
use Rattle.std.specs.Prelude.{◌≡◌, ℕ, suc, ◌+◌, ◌<◌, Bool, false, cond, ◌&&◌, ◌⊎◌, List, [], ◌∷◌, length, Some, None, Option, ◌==◌, slice_index_or}
use Rattle.quantities.specs.Ids.{TaskId, LockId}
use Rattle.queues.specs.Rings as queue
use Rattle.virtual_time.specs.declared.position.Position.{Position}
use Rattle.virtual_time.specs.Positions.{made_far, made_rest}
use Rattle.windows.specs.declared.Window as code-window
use Rattle.windows.specs.declared.span.Span.{Span}
use Rattle.sched.specs.declared.Scheduler.{Scheduler}
use Rattle.sched.specs.declared.Kind.{Kind}
use Rattle.sched.specs.declared.Kind.TheVariants.{Reserved, Fixed, Fair}
use Rattle.sched.specs.declared.promise.Promise.{Promise}
use Rattle.sched.specs.declared.promise.Promise.TheVariants as promised
use Rattle.sched.specs.declared.tasks.Slot.{Slot}
use Rattle.sched.specs.declared.tasks.Slot.TheVariants as slot
use Rattle.sched.specs.declared.fair.Fair as code-fair
use Rattle.sched.specs.declared.fixed.Fixed as code_fixed
use Rattle.sched.specs.declared.locks.Locks as code-locks
use Rattle.sched.specs.House.{House, Place, Nobody, A, Kept, Window, Shut, Open, put, makes, anew, is_fixed, rank_of, weight_of}
use Rattle.sched.specs.Promise.{Comes}
use Rattle.sched.specs.Quotas.{Quotas}

-- a promise, as the kind of task that it is made to
unfoldable pub kind_of : Promise → Kind
kind_of (promised.Reserved r) = Reserved r.quota r.period
kind_of (promised.Fixed r) = Fixed r.index
kind_of (promised.Fair w) = Fair w.value

-- who is at a place
unfoldable pub place_of : Slot → Place
place_of slot.Free = Nobody
place_of (slot.Task p) = A (kind_of p)
place_of (slot.Kept r) = Kept r.quota r.period

-- who is at place i
abbrev pub place_at : List Slot → ℕ → Place
place_at slots i = place_of (slice_index_or slots i slot.Free)

-- a lock's owner: 0, or 1 and the task
unfoldable pub owner_of : Option TaskId → ℕ
owner_of None = 0
owner_of (Some i) = suc i.index

-- the lock that a task waits for: 0, or 1 and the lock
unfoldable pub awaited_of : Option LockId → ℕ
awaited_of None = 0
awaited_of (Some m) = suc m.index

-- a window that is open, or none
abbrev pub span_of : Option Span → Window
span_of None = Shut
span_of (Some s) = Open s.ends s.got s.whole

unfoldable pub window_of : code-window.Window → Window
window_of w = span_of w.span

-- a window that isn't open
abbrev pub shut : code-window.Window
shut = record { span = None }

-- the place of a task with this promise
abbrev pub task_place : Promise → Place
task_place p = A (kind_of p)

-- the place of a task that has this reservation
abbrev pub reserved_place : (q p : ℕ) → Place
reserved_place q p = A (Reserved q p)

-- the place of a fixed task of this rank
abbrev pub fixed_place : ℕ → Place
fixed_place r = A (Fixed r)

-- An array of 64 stands for a function: what is read at i means f i, and past the end the default does.
pub record Reads {X Y : Type 0} (mean : X → Y) (none : X) (xs : List X) (f : ℕ → Y) : Type 0 where
  pub len : length xs ≡ 64
  pub at : (i : ℕ) → mean (slice_index_or xs i none) ≡ f i

-- those of a list that pass
unfoldable pub keep : (ℕ → Bool) → List ℕ → List ℕ
keep f [] = []
keep f (i ∷ is) = cond (f i) (i ∷ keep f is) (keep f is)

abbrev pub of_rank : (ℕ → Place) → ℕ → ℕ → Bool
of_rank place r i = is_fixed (place i) && rank_of (place i) == r

-- the turn of fixed tasks: the rules keep one of all tasks, the code one of each rank
abbrev pub TurnOf : code_fixed.Fixed → (ℕ → Place) → List ℕ → Type 0
TurnOf s place turn = queue.Holds s.turn (λ r. keep (of_rank place r) turn)

-- A position is kept less a base that no code holds: exactly, or, of one that fell behind the base, as 0 and 0.
abbrev pub Near : (base far rest whole part : ℕ) → Type 0
Near base far rest whole part = ((far ≡ base + whole) × (rest ≡ part)) ⊎ ((far < base) × (whole ≡ 0) × (part ≡ 0))

-- what is kept for a task of weight w that is far and rest parts far
pub record Stands (base w far rest : ℕ) (p : Position) : Type 0 where
  pub weight : p.weight.value ≡ w
  pub near : Near base far rest p.whole p.rest

-- what is kept for a task of weight w that is made while this is kept for the mark: one part beyond it
abbrev pub StandsBeyond : (base w : ℕ) (mark p : Position) → Type 0
StandsBeyond base w mark p = Stands base w (base + made_far mark.whole mark.rest mark.weight.value w) (made_rest mark.rest mark.weight.value w) p

-- what is kept where no part may be lost: of the mark, and of whoever wants a tick
pub record Exact (base w far rest : ℕ) (p : Position) : Type 0 where
  pub weight : p.weight.value ≡ w
  pub whole : far ≡ base + p.whole
  pub part : rest ≡ p.rest

-- what is kept for each fair task
pub record AllStand (base : ℕ) (positions : List Position) (place : ℕ → Place) (far rest : ℕ → ℕ) : Type 0 where
  pub len : length positions ≡ 64
  pub each : (i : ℕ) (d : Position) → i < 64 → 0 < weight_of (place i) → Stands base (weight_of (place i)) (far i) (rest i) (slice_index_or positions i d)

-- How far fair tasks are, and the mark. The mark is low, so that no position comes to the cap.
pub record Fairly (f : code-fair.Fair) (place : ℕ → Place) (far rest : ℕ → ℕ) (mark_far mark_rest mark_over : ℕ) (wanted : ℕ → Bool) : Type 0 where
  pub base : ℕ
  pub all : AllStand base f.positions place far rest
  pub mark : Exact base mark_over mark_far mark_rest f.mark
  pub flags : Reads (λ (b : Bool). b) false f.wanted wanted
  pub low : f.mark.whole < 1024

-- the same, of a house
abbrev pub FairlyOf : code-fair.Fair → House → Type 0
FairlyOf f h = Fairly f h.place h.far h.rest h.mark_far h.mark_rest h.mark_over h.wanted

-- the house in which this was promised to a new task at i, as far as fair tasks go
abbrev pub made_at : ℕ → Promise → House → House
made_at i p h = anew i (makes h (put i (A (kind_of p)) h.place) h.awake h.waits h.owner h.row h.window h.turn)

-- Who owns and who waits, in a house that can have come about.
pub record Locked (s : code-locks.Locks) (h : House) : Type 0 where
  pub comes : Comes h
  pub owners : Reads owner_of None s.owners h.owner
  pub rows : queue.Holds s.waiters h.row

-- Field by field. Whom a task waits for needs no array: who waits stands in the lock's row.
pub record Stores (s : Scheduler) (h : House) : Type 0 where
  pub slots : Reads place_of slot.Free s.tasks.slots h.place
  pub awake : Reads (λ (b : Bool). b) false s.tasks.awake h.awake
  pub owners : Reads owner_of None s.locks.owners h.owner
  pub rows : queue.Holds s.locks.waiters h.row
  pub windows : Reads window_of shut s.reserved.windows h.window
  pub turn : TurnOf s.fixed h.place h.turn
  pub fair : FairlyOf s.fair h

-- The scheduler stands for the house: it has come about by the rules, quotas are covered, and the arrays say so.
pub record Holds (s : Scheduler) (h : House) : Type 0 where
  pub comes : Comes h
  pub quotas : Quotas h.place h.window
  pub stores : Stores s h
