-- The mark is raised to the least far, or that isn't beyond it, or nobody wants.
use Rattle.std.proofs.Common.{get_or, sym}
use Rattle.sched.proofs.positions.Beginning.{begun, mark-raised, mark-stays, mark-alone}
use Rattle.sched.proofs.model.Positions.{positions-come}
use Rattle.sched.proofs.fair.Fair.raise_mark.Goals as goal

pub returns-then-is_behind : goal.returns-then-is_behind
returns-then-is_behind c base h comes begins =
    begun base h c.args.self.now begins (get_or c.args.self.now.positions c.index.result c.index-self-index.result) (positions-come comes)
    (mark-raised base h c.args.self.now begins c.in-Some.i c.index.result c.index-self-index.result c.in-Some.is c.index.ensures.value (sym c.if-is_behind.ensures))

pub returns-else-is_behind : goal.returns-else-is_behind
returns-else-is_behind c base h comes begins =
    begun base h c.args.self.now begins c.args.self.now.mark (positions-come comes)
    (mark-stays base h c.args.self.now begins c.in-Some.i c.index.result c.index-self-index.result c.in-Some.is c.index.ensures.value (sym c.if-is_behind.ensures))

pub returns-in_default : goal.returns-in_default
returns-in_default c base h comes begins = begun base h c.args.self.now begins c.args.self.now.mark (positions-come comes) (mark-alone base h c.args.self.now begins c.in_default.is)
