-- Both writes, one after the other.
use Rattle.std.proofs.Common.{ap, ◌∙◌}
use Rattle.queues.specs.Rings.{spot, packed}
use Rattle.queues.specs.Writes.{joined, set_before}
use Rattle.queues.proofs.fifo.Queues.join.Goals as goal

pub returns : goal.returns
unfolding joined
returns c = c.set_prev.ensures ∙ ap (λ s. set_before c.args.q.index (spot c.args.b) (packed c.args.a) s) c.set_next.ensures
