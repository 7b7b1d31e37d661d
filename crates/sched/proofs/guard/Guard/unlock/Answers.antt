use Rattle.std.proofs.Common.{[], ◌∷◌, subst}
use Rattle.sched.specs.declared.Call.TheVariants.{Unlock}
use Rattle.sched.specs.Called.{Told, answer_of, done}
use Rattle.sched.proofs.Guarded.{gave}
use Rattle.sched.proofs.Stacks.{on-top}
use Rattle.sched.proofs.guard.Guard.unlock.Goals as goal

pub returns-clause-given : goal.returns-clause-given
returns-clause-given c =
    let s = c.args.self.now.scheduler.now in
    let t = c.unlock-done.new.self in
    let i = c.args.self.now.task.index in
    let m = c.in_ok-lock.lock in
    let told = subst (λ n. Told s t (Unlock n m) (answer_of done c.unlock-done.result)) c.into.ensures.0 c.unlock-done.ensures.answered in
    (on-top _ _ m c.in_ok-lock.ensures.items, gave s t i (m ∷ []) (λ h k. (told h k).1))
