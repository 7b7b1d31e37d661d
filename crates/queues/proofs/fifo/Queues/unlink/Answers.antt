-- The neighbours that are joined are those that the link names.
use Rattle.std.proofs.Common.{arith}
use Rattle.queues.specs.Writes.{set_place, unlinked}
use Rattle.queues.proofs.Writes.{link-read}
use Rattle.queues.proofs.fifo.Queues.unlink.Goals as goal

pub returns : goal.returns
unfolding unlinked set_place
returns c =
    let link = link-read c.join.new.self c.index.result c.args.i.index c.index.ensures.value c.index-self-index.result (omega arith) in
    cc (link, c.link-link.ensures, c.get.ensures, c.get-2.ensures, c.into.ensures, c.join.ensures)
