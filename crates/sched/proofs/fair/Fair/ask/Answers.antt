-- A place at which a fair task wants is joined, any other is passed over.
use Rattle.std.proofs.Common.{sym, ◌∙◌}
use Rattle.sched.proofs.positions.Beginning.{begins-over}
use Rattle.sched.proofs.fair.Fair.ask.Goals as goal

pub returns-then-asks : goal.returns-then-asks
returns-then-asks c base h comes asks begins = c.join.ensures base h comes (sym asks ∙ c.if-asks.true) begins

pub returns-else-asks : goal.returns-else-asks
returns-else-asks c base h comes asks begins =
    simp c.index.ensures.value (begins-over base h c.args.self.now c.args.i.index c.args.i.within begins (sym asks ∙ c.if-asks.false))
