-- The link of a member or the ends of the queue, as the spot is.
use Rattle.std.proofs.Common.{arith}
use Rattle.queues.specs.Rings.{packed}
use Rattle.queues.proofs.Writes.{link-read, ends-read, after-member, after-end}
use Rattle.queues.proofs.fifo.Queues.set_next.Goals as goal

pub returns-in-Some : goal.returns-in-Some
returns-in-Some c =
    let s = c.args.self.now in
    let i = c.in-Some.i in
    let read = link-read s c.index.result i.index c.index.ensures.value c.index-self-index.result (omega arith) in
    rw c.in-Some.is (cc (read, c.into.ensures, after-member s c.args.q.index i.index (packed c.args.b) i.within))

pub returns-in-None : goal.returns-in-None
returns-in-None c =
    let s = c.args.self.now in
    let q = c.args.q in
    let read = ends-read s c.index-in-None.result q.index c.index-in-None.ensures.value c.index-self-index-in-None.result (omega arith) in
    rw c.in-None.is (cc (read, c.into-in-None.ensures, after-end s q.index 64 (packed c.args.b) (omega arith)))
