-- The scheduler stands for the world's house: so what it answers is what the call comes to, and the tick that it picks may be.
use Rattle.std.proofs.Common.{sym, subst}
use Rattle.sched.specs.House.{goes_on'}
use Rattle.sched.specs.Stores.{Holds}
use Rattle.sched.proofs.hours.Goals as goal

-- to ask what comes next leaves the house as it is
pub told-requires : goal.told-requires
unfolding goes_on'
told-requires g c =
    let stands = subst (Holds c.loop-n.s) (sym c.next.ensures.0) c.loop-n.invariant in
    (c.in-Calls.ensures.1 tt, (c.call-a.ensures.answered (g.W.World.house c.next.new.self) stands).0)

pub runs-requires : goal.runs-requires
unfolding goes_on'
runs-requires g c =
    let stands = subst (Holds c.loop-n.s) (sym c.next.ensures.0) c.loop-n.invariant in
    (c.in-Tick.ensures.1 tt, (c.pick-t.ensures (g.W.World.house c.next.new.self) stands).0)

pub loop-n-preserved : goal.loop-n-preserved
loop-n-preserved g c =
    let stands = subst (Holds c.loop-n.s) (sym c.next.ensures.0) c.loop-n.invariant in
    subst (Holds c.pick-t.new.self) (sym c.runs.ensures.0) (c.pick-t.ensures (g.W.World.house c.next.new.self) stands).1
