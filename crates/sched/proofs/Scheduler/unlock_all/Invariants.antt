use Rattle.arrayvec.specs.ArrayVec.{array_vec_len}
use Rattle.sched.specs.declared.Scheduler.{Scheduler}
use Rattle.sched.specs.Held.{locks_of, Unlocked}
use Rattle.sched.proofs.Scheduler.unlock_all.Given as goal

-- whoever gives back what is left has given back all
abbrev pub invariant-loop-lock : goal.invariant-loop-lock
invariant-loop-lock l =
    (t : Scheduler) → Unlocked l.self t l.i.index (locks_of l.left) → Unlocked l.initial.self t l.i.index (locks_of l.initial.left)

abbrev pub decreases-loop-lock : goal.decreases-loop-lock
decreases-loop-lock l = array_vec_len l.left
