-- The link of a member or the ends of the queue, as the spot is.
use Rattle.std.proofs.Common.{arith}
use Rattle.queues.specs.Rings.{packed}
use Rattle.queues.proofs.Writes.{link-read, ends-read, before-member, before-end}
use Rattle.queues.proofs.fifo.Queues.set_prev.Goals as goal

pub returns-in-Some : goal.returns-in-Some
returns-in-Some c =
    let s = c.args.self.now in
    let i = c.in-Some.i in
    let read = link-read s c.index.result i.index c.index.ensures.value c.index-self-index.result (omega arith) in
    rw c.in-Some.is (cc (read, c.into.ensures, before-member s c.args.q.index i.index (packed c.args.a) i.within))

pub returns-in-None : goal.returns-in-None
returns-in-None c =
    let s = c.args.self.now in
    let q = c.args.q in
    let read = ends-read s c.index-in-None.result q.index c.index-in-None.ensures.value c.index-self-index-in-None.result (omega arith) in
    rw c.in-None.is (cc (read, c.into-in-None.ensures, before-end s q.index 64 (packed c.args.a) (omega arith)))
