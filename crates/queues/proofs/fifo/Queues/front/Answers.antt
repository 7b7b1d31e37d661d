-- The head is who comes after nobody in the ring.
use Rattle.queues.proofs.Told.{front-told}
use Rattle.queues.proofs.fifo.Queues.front.Goals as goal

pub returns : goal.returns
returns c f h = front-told h c.args.q.index c.ends.result c.get.result c.args.q.within c.ends.ensures c.get.ensures
