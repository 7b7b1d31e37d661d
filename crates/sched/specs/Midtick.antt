-- A tick on the way: which part of the scheduler stands for which part of the house, and what is to be shown of whoever has the tick.
-- Assumes nothing.
use Rattle.std.specs.Prelude.{◌≡◌, ℕ, suc, ◌-◌, ◌<◌, ◌≤◌, Bool, true, false, cond, not, ◌&&◌, ◌||◌, T, Option, MatchOption, ◌==◌, nat_lt}
use Rattle.quantities.specs.Ids.{TaskId}
use Rattle.sched.specs.declared.Scheduler.{Scheduler}
use Rattle.sched.specs.declared.locks.Locks.{Locks}
use Rattle.sched.specs.declared.tasks.Tasks.{Tasks}
use Rattle.sched.specs.declared.tasks.Slot.TheVariants as slot
use Rattle.sched.specs.declared.wants.Wants as code-wants
use Rattle.sched.specs.declared.reserved.Reserved as code-reserved
use Rattle.sched.specs.House.{House, Window, Shut, Open, some', is_fixed, wants, due, rank_wants, top_rank, in_turn, may_take, may_rest, opened}
use Rattle.sched.specs.Stores.{Reads, Locked, TurnOf, place_of, window_of, owner_of, shut}
use Rattle.sched.specs.Begun.{Begun}
use Rattle.sched.specs.Quotas.{Quotas}
use Rattle.sched.specs.Policy.{whole_due}
use Rattle.sched.specs.Windows.{ends_of}

abbrev pub SlotsOf : Tasks → House → Type 0
SlotsOf t h = Reads place_of slot.Free t.slots h.place

abbrev pub WantsOf : code-wants.Wants → House → Type 0
WantsOf w h = Reads (λ (b : Bool). b) false w.flags (wants h)

abbrev pub WindowsOf : code-reserved.Reserved → House → Type 0
WindowsOf r h = Reads window_of shut r.windows h.window

-- who wants, where a clause has another `wants`
abbrev pub asking : House → ℕ → Bool
asking h i = wants h i

-- Who is there and awake, and who holds what: what says who wants.
pub record Seen (t : Tasks) (l : Locks) (h : House) : Type 0 where
  pub slots : SlotsOf t h
  pub awake : Reads (λ (b : Bool). b) false t.awake h.awake
  pub locks : Locked l h

-- The tick has begun: windows have opened, fair tasks have come back and the mark has moved, and nobody has had it yet.
pub record Midtick (s : Scheduler) (h : House) : Type 0 where
  pub quotas : Quotas h.place h.window
  pub seen : Seen s.tasks s.locks h
  pub windows : WindowsOf s.reserved (opened h)
  pub turn : TurnOf s.fixed h.place h.turn
  pub fair : Begun s.fair h

-- RESERVED
-- i is due; and if the window of one that is due is whole, i's is too, and ends no later
pub record SoonestDue (h : House) (i : ℕ) : Type 0 where
  pub here : due h i ≡ true
  pub first : (j : ℕ) → j < 64 → T (whole_due h j) → T (whole_due h i) × (ends_of (h.window i) ≤ ends_of (h.window j))

-- v is to be served before w: an open window before none, a whole one before one that isn't, then the earlier end
unfoldable pub sooner_than : Window → Window → Bool
sooner_than Shut w = false
sooner_than (Open e g b) Shut = true
sooner_than (Open e g b) (Open f k c) = cond b (not c || nat_lt e f) (not c && nat_lt e f)

-- t is the best of the due ones below n, if there is one
abbrev pub BestBelow : ℕ → House → Option TaskId → Type 0
BestBelow n h t =
    MatchOption t ((j : ℕ) → j < n → due h j ≡ false) (λ i. (due h i.index ≡ true) × ((j : ℕ) → j < n → due h j ≡ true → sooner_than (h.window j) (h.window i.index) ≡ false))

-- FIXED
abbrev pub fixed_wants : House → ℕ → Bool
fixed_wants h i = is_fixed (h.place i) && wants h i

-- i is the first in turn of the first rank of which one wants
pub record FirstInTurn (h : House) (i : ℕ) : Type 0 where
  pub some : some' 16 (λ (r : ℕ). some' 64 (rank_wants h r)) ≡ true
  pub first : in_turn (rank_wants h (top_rank h)) h.turn ≡ suc i

-- WHOSE THE TICK IS
-- the rules let it be t's, and whole windows go first
pub record Chosen (h : House) (t : Option TaskId) : Type 0 where
  pub may : T (cond (owner_of t == 0) (may_rest (opened h)) (may_take (opened h) (owner_of t - 1)))
  pub whole : (j : ℕ) → j < 64 → T (whole_due (opened h) j) →
      (i : ℕ) × (owner_of t ≡ suc i) × T (whole_due (opened h) i) × (ends_of ((opened h).window i) ≤ ends_of ((opened h).window j))
