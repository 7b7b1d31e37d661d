-- The place of a member is its queue.
use Rattle.queues.proofs.Told.{queue-told}
use Rattle.queues.proofs.fifo.Queues.queue_of.Goals as goal

pub returns : goal.returns
returns c f h = queue-told h c.args.i.index c.link.result c.get.result c.args.i.within c.link.ensures c.get.ensures
