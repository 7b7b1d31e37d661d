use Rattle.std.proofs.Common.{sym, subst}
use Rattle.std.proofs.lemmas.Bool.{false≢true}
use Rattle.sched.specs.declared.Call.TheVariants.{Unlock}
use Rattle.sched.specs.Called.{Told, answer_of, done}
use Rattle.sched.specs.Held.{returned}
use Rattle.sched.specs.Stores.{Holds}
use Rattle.sched.proofs.Stacks.{on-top, none_left}
use Rattle.sched.proofs.Scheduler.unlock_all.Goals as goal

pub loop-lock-preserved : goal.loop-lock-preserved
loop-lock-preserved c t rest =
    let i = c.args.i.index in
    let told = subst (λ n. Told c.loop-lock.self c.unlock-done.new.self (Unlock n c.in-Some.lock) (answer_of done c.unlock-done.result)) c.into.ensures.0 c.unlock-done.ensures.answered in
    c.loop-lock.invariant t (λ h k. subst (λ ms. Holds t (returned h i ms)) (sym (on-top _ _ _ c.in-Some.ensures.items)) (rest _ (told h k).1))

pub returns : goal.returns
returns c =
    let s = c.loop-lock.self in
    c.loop-lock.invariant s (λ h k. subst (λ ms. Holds s (returned h c.args.i.index ms)) (sym (none_left _ (λ l. false≢true (c.in_default.ensures.variant.1 l)))) k)
