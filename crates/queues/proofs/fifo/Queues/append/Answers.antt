-- Behind the last, then in front of nobody, and then the place is written.
use Rattle.std.proofs.Common.{arith}
use Rattle.queues.specs.Writes.{set_place, appended}
use Rattle.queues.proofs.Writes.{link-read}
use Rattle.queues.proofs.fifo.Queues.append.Goals as goal

pub returns : goal.returns
unfolding appended set_place
returns c =
    let link = link-read c.join-2.new.self c.index.result c.args.i.index c.index.ensures.value c.index-self-index.result (omega arith) in
    cc (link, c.ends.ensures, c.get-last.ensures, c.into.ensures, c.join.ensures, c.join-2.ensures)
