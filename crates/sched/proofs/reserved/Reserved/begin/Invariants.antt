-- Below k windows are as the tick begins, from k on as they were.
use Rattle.sched.specs.House.{House, windowed}
use Rattle.sched.specs.Stores.{Reads, window_of, shut}
use Rattle.sched.specs.Midtick.{SlotsOf, WantsOf, WindowsOf}
use Rattle.sched.proofs.Upto.{upto}
use Rattle.sched.proofs.reserved.Reserved.begin.Given as goal

abbrev pub invariant-loop-i : goal.invariant-loop-i
invariant-loop-i l =
    (h : House) → SlotsOf l.tasks h → WantsOf l.wants h → WindowsOf l.initial.self h → Reads window_of shut l.self.windows (upto l.i-iterator.next (windowed h).window h.window)
