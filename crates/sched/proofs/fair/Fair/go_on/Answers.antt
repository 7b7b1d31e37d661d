-- The least far wants, so its position is exact, and one part on it still is.
use Rattle.sched.proofs.positions.Passing.{passing_step}
use Rattle.sched.proofs.model.Positions.{positions-come}
use Rattle.sched.proofs.fair.Fair.go_on.Goals as goal

pub returns : goal.returns
returns c h comes least begun =
    passing_step c.args.self.now c.args.i c.index.result c.index-2.result c.index-self-index.result c.advance.result (positions-come comes) least begun c.index.ensures.value c.index-2.ensures.value
    c.advance.ensures.weight c.advance.ensures.whole c.advance.ensures.rest
