-- No place of a number handed out so far is free.
use Rattle.std.proofs.Common.{◌≡◌, ℕ, ◌<◌, false}
use Rattle.sched.specs.House.{is_nobody}
use Rattle.sched.specs.Stores.{place_at}
use Rattle.sched.proofs.tasks.Tasks.free_place.Given as goal

abbrev pub invariant-loop-i : goal.invariant-loop-i
invariant-loop-i l = (k : ℕ) → k < l.i-iterator.next → is_nobody (place_at l.self.slots k) ≡ false
