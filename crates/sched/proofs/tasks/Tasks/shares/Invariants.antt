-- The sum so far, to which each place adds 10,080 at most.
use Rattle.std.proofs.Common.{◌≡◌, ◌*◌, ◌≤◌}
use Rattle.sched.specs.House.{sum, share_of}
use Rattle.sched.specs.Stores.{place_at}
use Rattle.sched.proofs.tasks.Tasks.shares.Given as goal

abbrev pub invariant-loop-slot : goal.invariant-loop-slot
invariant-loop-slot l = (l.sum ≡ sum l.slot-index (λ k. share_of (place_at l.self.slots k))) × (l.sum ≤ 10080 * l.slot-index)
