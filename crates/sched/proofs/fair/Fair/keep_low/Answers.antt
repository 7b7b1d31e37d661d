-- What is taken off the mark and all positions goes to the base.
use Rattle.std.proofs.Common.{◌≤◌, ◌+◌, arith}
use Rattle.sched.proofs.positions.Lowering.{lowers-more, lowers-all, mark-lowered}
use Rattle.sched.proofs.fair.Fair.keep_low.Goals as goal

pub loop-position-preserved : goal.loop-position-preserved
loop-position-preserved c base place far rest all =
    lowers-more c.loop-position.position-index c.position-item.result c.lowered.result c.loop-position-test.true c.lowered.ensures.weight c.lowered.ensures.whole c.lowered.ensures.rest (c.loop-position.invariant base place far rest all)

pub returns : goal.returns
returns c h passing =
    let by = c.whole-by.result in
    let lowers = c.loop-position.invariant passing.base h.place h.far h.rest passing.all in
    let past : 64 ≤ c.loop-position.position-index = omega (arith, lowers.len) in
    let mark = mark-lowered by c.args.self.now.mark c.lowered-self.result c.whole-by.ensures passing.mark c.lowered-self.ensures.weight c.lowered-self.ensures.whole c.lowered-self.ensures.rest in
    record { base = passing.base + by; all = lowers-all past lowers; mark = mark.0; flags = passing.flags; low = omega (arith, mark.1) }
