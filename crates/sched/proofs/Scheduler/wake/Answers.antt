-- No such task, or it is awake from now on.
use Rattle.std.proofs.Common.{true}
use Rattle.sched.specs.declared.refusal.Refusal.TheVariants.{NoTask}
use Rattle.sched.proofs.Told.{turned-away, went-through}
use Rattle.sched.proofs.Changes.{stores-awake}
use Rattle.sched.proofs.model.CallWays.{woken}
use Rattle.sched.proofs.model.Outcomes.{wake-none, wake-done}
use Rattle.sched.proofs.Scheduler.wake.Goals as goal

pub returns-in_err-i : goal.returns-in_err-i
returns-in_err-i c =
    let none = c.in_err-i.ensures in
    turned-away NoTask c.from_residual.ensures.1 none.0 (λ h k. wake-none h c.args.number (none.1 h k))

pub returns : goal.returns
returns c =
    let i = c.in_ok-i.i in
    let found = c.in_ok-i.ensures in
    let t = c.set_awake.new.self in
    rw (← found.0) (went-through _ (woken i.index) (λ h k. wake-done h i.index (found.1 h k)) (λ h k. stores-awake _ h k.stores t i.index true i.within c.set_awake.ensures.slots c.set_awake.ensures.awake))
