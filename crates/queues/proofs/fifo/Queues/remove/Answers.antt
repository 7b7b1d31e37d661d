-- Who stands in a queue is unlinked from it; who stands in none is in no list to be taken out of.
use Rattle.queues.proofs.Changes.{removed, not-removed}
use Rattle.queues.proofs.fifo.Queues.remove.Goals as goal

pub returns-in_default-clause-after : goal.returns-in_default-clause-after
returns-in_default-clause-after c f h = not-removed h c.args.i.index (c.in_default.ensures f h)

pub returns-clause-after : goal.returns-clause-after
returns-clause-after c f h = removed h c.in-Some.q.index c.args.i.index (c.in-Some.ensures f h).0 c.unlink.ensures
