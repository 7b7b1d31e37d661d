-- Below k windows and places are as they are when the tick has passed, from k on as they were.
use Rattle.std.proofs.Common.{◌≡◌}
use Rattle.sched.specs.declared.tasks.Slot.TheVariants as slot
use Rattle.sched.specs.House.{House, ticked}
use Rattle.sched.specs.Stores.{Reads, window_of, place_of, owner_of, shut}
use Rattle.sched.specs.Midtick.{SlotsOf, WindowsOf}
use Rattle.sched.proofs.Upto.{upto}
use Rattle.sched.proofs.reserved.Reserved.pass.Given as goal

abbrev pub invariant-loop-i : goal.invariant-loop-i
invariant-loop-i l =
    ((h : House) → WindowsOf l.initial.self h → Reads window_of shut l.self.windows (upto l.i-iterator.next (ticked h (owner_of l.whose)).window h.window))
    × ((h : House) → WindowsOf l.initial.self h → SlotsOf l.initial.tasks h → Reads place_of slot.Free l.tasks.slots (upto l.i-iterator.next (ticked h (owner_of l.whose)).place h.place))
    × (l.tasks.awake ≡ l.initial.tasks.awake)
