-- First out of its queue, then last in it.
use Rattle.std.proofs.Common.{ap, ◌∙◌}
use Rattle.queues.specs.Writes.{appended}
use Rattle.queues.proofs.Changes.{moved, not-moved}
use Rattle.queues.proofs.fifo.Queues.move_to_back.Goals as goal

pub returns-in_default-clause-after : goal.returns-in_default-clause-after
returns-in_default-clause-after c f h = not-moved h c.args.i.index (c.in_default.ensures f h)

pub returns-clause-after : goal.returns-clause-after
returns-clause-after c f h =
    let q = c.in-Some.q in
    let i = c.args.i in
    moved h q i (c.in-Some.ensures f h).0 (c.append.ensures ∙ ap (λ s. appended q i s) c.unlink.ensures)
