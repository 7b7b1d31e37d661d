-- Places below k are as the tick begins with them.
use Rattle.std.proofs.Common.{ℕ}
use Rattle.sched.specs.declared.tasks.Slot.TheVariants as slot
use Rattle.sched.specs.House.{House}
use Rattle.sched.specs.Promise.{Comes}
use Rattle.sched.specs.Stores.{Reads, place_of}
use Rattle.sched.specs.Begun.{Wanting, Begins}
use Rattle.sched.proofs.fair.Fair.begin.Given as goal

abbrev pub invariant-loop-i : goal.invariant-loop-i
invariant-loop-i l = (base : ℕ) (h : House) → Comes h → Reads place_of slot.Free l.tasks.slots h.place → Wanting l.wants.flags h → Begins base 0 l.initial.self h → Begins base l.i-iterator.next l.self h
