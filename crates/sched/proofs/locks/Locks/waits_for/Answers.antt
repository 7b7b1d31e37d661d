-- Who stands in a row waits for its lock, and that has an owner.
use Rattle.std.proofs.Common.{None}
use Rattle.sched.specs.Stores.{owner_of}
use Rattle.sched.proofs.Arrays.{reads_at}
use Rattle.sched.proofs.Waiting.{free-waits, owner-told}
use Rattle.sched.proofs.locks.Locks.waits_for.Goals as goal

pub returns-in_err-q : goal.returns-in_err-q
returns-in_err-q c h k = rw c.from_residual.ensures (free-waits h k.comes c.args.i.index (c.in_err-q.ensures h.row k.rows))

pub returns : goal.returns
returns c h k =
    let q = c.in_ok-q.q in
    owner-told h k.comes c.args.i.index q.index _ (c.in_ok-q.ensures h.row k.rows).0 (reads_at owner_of None q.index c.index.result _ c.index.ensures.value q.within k.owners)
