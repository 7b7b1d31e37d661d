-- The one position and the one flag that are written are the new task's.
use Rattle.sched.specs.Stores.{task_place}
use Rattle.sched.proofs.positions.Standing.{fairly-made}
use Rattle.sched.proofs.fair.Fair.made.Goals as goal

pub returns : goal.returns
returns c h fairly =
    simp (c.index.ensures.value, c.index-2.ensures.value)
    (fairly-made c.args.self.now h.place h.far h.rest h.mark_far h.mark_rest h.mark_over h.wanted c.args.i.index (task_place c.args.promise) c.beginning.result c.args.i.within fairly c.beginning.ensures)
