use Rattle.std.proofs.Common.{◌≡◌}
use Rattle.sched.specs.Midtick.{BestBelow}
use Rattle.sched.proofs.Soonest.{best-all}
use Rattle.sched.proofs.reserved.ReservedClass.candidate.Goals as goal

pub returns : goal.returns
returns c h slots asks windows =
    let e : c.loop-i.i-iterator.next ≡ 64 = c.in-None.ensures.steps.0 in
    let best : BestBelow 64 h c.loop-i.best = rw e at (c.loop-i.invariant h slots asks windows) in
    best-all h c.loop-i.best best
