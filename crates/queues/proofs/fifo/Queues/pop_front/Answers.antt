-- The first is unlinked, and the rest of the list is left.
use Rattle.queues.proofs.Changes.{popped, not_popped}
use Rattle.queues.proofs.fifo.Queues.pop_front.Goals as goal

pub returns-in_err-i-clause-after : goal.returns-in_err-i-clause-after
returns-in_err-i-clause-after c f h = not_popped h c.args.q.index (c.in_err-i.ensures f h)

pub returns-clause-after : goal.returns-clause-after
returns-clause-after c f h = popped h c.args.q.index c.in_ok-i.i.index (c.in_ok-i.ensures f h) c.unlink.ensures
