-- Who has a place has its ring's next behind it.
use Rattle.queues.proofs.Told.{next-told}
use Rattle.queues.proofs.fifo.Queues.next.Goals as goal

pub returns-clause-behind : goal.returns-clause-behind
returns-clause-behind c f h q xs ys e = next-told h q c.args.i.index xs ys c.link-link.result c.get.result c.get-2.result c.and.result e c.link-link.ensures c.get.ensures c.get-2.ensures c.and.ensures
