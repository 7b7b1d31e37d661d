use Rattle.std.proofs.Common.{sym, ap, ◌∙◌, refl}
use Rattle.sched.specs.House.{is_task}
use Rattle.sched.specs.Stores.{place_of}
use Rattle.sched.proofs.Seeing.{seen-wants}
use Rattle.sched.proofs.wants.asks.Goals as goal

pub returns-then-is_task : goal.returns-then-is_task
returns-then-is_task c h seen =
    let i = c.args.i.index in
    seen-wants h c.args.tasks.now c.args.locks.now seen i i c.runner.result.index c.is_awake.result c.args.i.within refl (ap (λ s. is_task (place_of s)) (sym c.slot.ensures) ∙ sym c.is_task.ensures ∙ c.if-is_task.true) (c.runner.ensures h seen.locks) c.is_awake.ensures
