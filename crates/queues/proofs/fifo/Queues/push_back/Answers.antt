-- Who is told to stand in no queue is appended.
use Rattle.std.proofs.Common.{sym, ◌∙◌}
use Rattle.queues.proofs.Changes.{pushed, not-pushed, not-standing}
use Rattle.queues.proofs.fifo.Queues.push_back.Goals as goal

pub returns-then-is_some-clause-after : goal.returns-then-is_some-clause-after
returns-then-is_some-clause-after c f h = not-pushed c.args.self.now f c.args.q.index c.args.i.index c.queue_of.result (c.queue_of.ensures f h) (sym c.is_some.ensures ∙ c.if-is_some.true)

pub returns-clause-after : goal.returns-clause-after
returns-clause-after c f h = pushed h c.args.q c.args.i (not-standing f c.args.i.index c.queue_of.result (c.queue_of.ensures f h) (sym c.is_some.ensures ∙ c.if-is_some.false)) c.append.ensures
