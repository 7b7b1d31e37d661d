-- Who stands in a row waits, and nobody else does.
use Rattle.std.proofs.Common.{◌∙◌}
use Rattle.sched.proofs.Waiting.{waits-told}
use Rattle.sched.proofs.locks.Locks.is_waiting.Goals as goal

pub returns : goal.returns
returns c h k =
    c.is_some.ensures ∙ waits-told h k.comes c.args.i.index c.queue_of.result (c.queue_of.ensures h.row k.rows)
