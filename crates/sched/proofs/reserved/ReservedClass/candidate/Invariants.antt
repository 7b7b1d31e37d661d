-- The best of the places passed.
use Rattle.sched.specs.House.{House}
use Rattle.sched.specs.Midtick.{SlotsOf, WantsOf, WindowsOf, BestBelow}
use Rattle.sched.proofs.reserved.ReservedClass.candidate.Given as goal

abbrev pub invariant-loop-i : goal.invariant-loop-i
invariant-loop-i l = (h : House) → SlotsOf l.tasks h → WantsOf l.wants h → WindowsOf l.self h → BestBelow l.i-iterator.next h l.best
