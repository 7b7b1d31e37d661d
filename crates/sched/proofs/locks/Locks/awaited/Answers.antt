-- The queue in which it stands is that of the lock for which it waits.
use Rattle.std.proofs.Common.{suc, sym, ap, ◌∙◌}
use Rattle.sched.specs.Stores.{awaited_of}
use Rattle.sched.proofs.Waiting.{free-waits, member-waits}
use Rattle.sched.proofs.locks.Locks.awaited.Goals as goal

pub returns-in_err-q : goal.returns-in_err-q
unfolding awaited_of
returns-in_err-q c h k = rw c.from_residual.ensures (sym (free-waits h k.comes c.args.i.index (c.in_err-q.ensures h.row k.rows)))

pub returns : goal.returns
unfolding awaited_of
returns c h k =
    ap suc c.from.ensures ∙ sym (member-waits h k.comes c.args.i.index c.in_ok-q.q.index (c.in_ok-q.ensures h.row k.rows).0)
