-- Below i flags say who wants.
use Rattle.std.proofs.Common.{Bool, false}
use Rattle.sched.specs.House.{House, wants}
use Rattle.sched.specs.Stores.{Reads}
use Rattle.sched.specs.Midtick.{Seen}
use Rattle.sched.proofs.Upto.{upto}
use Rattle.sched.proofs.wants.Wants.now.Given as goal

abbrev pub invariant-loop-i : goal.invariant-loop-i
invariant-loop-i l = (h : House) → Seen l.tasks l.locks h → Reads (λ (b : Bool). b) false l.flags (upto l.i-iterator.next (wants h) (λ _. false))
