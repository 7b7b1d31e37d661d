-- No such task, one that waits, or it is asleep from now on.
use Rattle.std.proofs.Common.{false}
use Rattle.sched.specs.declared.refusal.Refusal.TheVariants.{NoTask, Waits}
use Rattle.sched.proofs.Told.{turned-away, went-through}
use Rattle.sched.proofs.Changes.{stores-awake}
use Rattle.sched.proofs.model.CallWays.{asleep}
use Rattle.sched.proofs.model.Outcomes.{sleep-none, sleep-waits, sleep-done}
use Rattle.sched.proofs.Scheduler.sleep.Goals as goal

pub returns-in_err-i : goal.returns-in_err-i
returns-in_err-i c =
    let none = c.in_err-i.ensures in
    turned-away NoTask c.from_residual.ensures.1 none.0 (λ h k. sleep-none h c.args.number (none.1 h k))

pub returns-in_err-not_waiting : goal.returns-in_err-not_waiting
returns-in_err-not_waiting c =
    let i = c.in_ok-i.i in
    let found = c.in_ok-i.ensures in
    let waits = c.in_err-not_waiting.ensures in
    rw (← found.0) (turned-away Waits c.from_residual-in_err-not_waiting.ensures.1 waits.0 (λ h k. sleep-waits h i.index (found.1 h k) (waits.1 h k)))

pub returns : goal.returns
returns c =
    let i = c.in_ok-i.i in
    let found = c.in_ok-i.ensures in
    let t = c.set_awake.new.self in
    rw (← found.0) (went-through _ (asleep i.index) (λ h k. sleep-done h i.index (found.1 h k) (c.in_ok-not_waiting.ensures h k)) (λ h k. stores-awake _ h k.stores t i.index false i.within c.set_awake.ensures.slots c.set_awake.ensures.awake))
