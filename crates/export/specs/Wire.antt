-- What numbers mean: the step that is asked for, the entry that is written.
-- Assumes nothing.
use Rattle.std.specs.Prelude.{ℕ, Bool, cond, Some, None, ◌==◌, nat_le}
use Rattle.sched.specs.declared.Answer.{Answer}
use Rattle.sched.specs.declared.Answer.TheVariants.{Done, Id, No}
use Rattle.sched.specs.declared.Call.{Call}
use Rattle.sched.specs.declared.Call.TheVariants.{Make, End, Wake, Sleep, Lock, Unlock}
use Rattle.sched.specs.declared.Kind.{Kind}
use Rattle.sched.specs.declared.Kind.TheVariants.{Reserved, Fixed, Fair}
use Rattle.memory.specs.declared.entry.Entry.{Entry}
use Rattle.memory.specs.declared.entry.Entry.TheVariants.{Ran, Called}
use Rattle.memory.specs.declared.entry.Step.{Step}
use Rattle.memory.specs.declared.entry.Step.TheVariants.{Tick, Calls}
use Rattle.export.specs.declared.wire.WireStep.{WireStep}
use Rattle.export.specs.declared.wire.WireEntry.{WireEntry}

-- what stands where no step is
abbrev pub no_step : WireStep
no_step = record { what = 0; first = 0; second = 0 }

-- 0 is the tick, 1 to 8 are calls: make has a number for each kind
abbrev pub good : WireStep → Bool
good w = nat_le w.what 8

unfoldable pub kind_of : (what a b : ℕ) → Kind
kind_of what a b = cond (what == 1) (Reserved a b) (cond (what == 2) (Fixed a) (Fair a))

unfoldable pub call_of : (what a b : ℕ) → Call
call_of what a b =
    cond (nat_le what 3) (Make (kind_of what a b))
    (cond (what == 4) (End a) (cond (what == 5) (Wake a) (cond (what == 6) (Sleep a) (cond (what == 7) (Lock a b) (Unlock a b)))))

unfoldable pub step_of : WireStep → Step
step_of w = cond (w.what == 0) Tick (Calls (call_of w.what w.first w.second))

unfoldable pub answer_of : (answer value : ℕ) → Answer
answer_of answer value = cond (answer == 0) Done (cond (answer == 1) (Id value) (No value))

unfoldable pub entry_of : WireEntry → Entry
entry_of w =
    cond (w.what == 0) (Ran (cond (w.answer == 0) None (Some w.first)) w.second)
    (Called (call_of w.what w.first w.second) (answer_of w.answer w.value))
