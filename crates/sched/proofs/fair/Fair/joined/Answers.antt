-- A task that comes back lands on the mark, or stands where it stood.
use Rattle.std.proofs.Common.{sym, ◌∙◌, inl, inr}
use Rattle.sched.proofs.positions.Beginning.{brought, not-brought}
use Rattle.sched.proofs.model.Positions.{positions-come}
use Rattle.sched.proofs.fair.Fair.joined.Goals as goal
use Rattle.sched.proofs.fair.Fair.joined.Goals.{else-not-self-index-via-then-not-self-index+else-is_behind, else-not-self-index-via-else-not-self-index}

pub returns-then-is_behind : goal.returns-then-is_behind
returns-then-is_behind c base h comes wants begins =
    brought base h c.args.self.now c.args.i (positions-come comes) wants begins c.index.result c.index-2.result c.index-self-index.result c.index.ensures.value c.index-2.ensures.value c.weight.result c.ceiling.result
    c.if-not-self-index.true (sym c.if-is_behind.ensures) c.weight.ensures c.ceiling.ensures.weight c.ceiling.ensures.whole c.ceiling.ensures.rest

pub returns : goal.returns
returns c base h comes wants begins =
    not-brought base h c.args.self.now c.args.i (positions-come comes) wants begins c.index.result c.index-2.result c.index-self-index.result c.index.ensures.value c.index-2.ensures.value
    (elim c.else-not-self-index.branch [
      | else-not-self-index-via-then-not-self-index+else-is_behind w ↦ inr (w.if-not-self-index.true, sym w.is_behind.ensures ∙ w.if-is_behind.false)
      | else-not-self-index-via-else-not-self-index w ↦ inl w.if-not-self-index.false
    ])
