-- At each turn the scheduler stands for the world's house; the turns that are left are fewer.
use Rattle.std.proofs.Common.{◌-◌}
use Rattle.sched.specs.Stores.{Holds}
use Rattle.sched.proofs.hours.Given as goal

abbrev pub invariant-loop-n : goal.invariant-loop-n
invariant-loop-n g l = Holds l.s (g.W.World.house l.w)

abbrev pub decreases-loop-n : goal.decreases-loop-n
decreases-loop-n g l = l.many - l.n
