use Rattle.sched.specs.declared.Call.TheVariants.{Lock}
use Rattle.sched.specs.Called.{Told, answer_of, done}
use Rattle.sched.proofs.Guarded.{took}
use Rattle.sched.proofs.Told.{at_both}
use Rattle.sched.proofs.guard.Guard.hold.Goals as goal

pub returns-clause-taken : goal.returns-clause-taken
returns-clause-taken c =
    let s = c.args.self.now.scheduler.now in
    let t = c.lock-done.new.self in
    let i = c.args.self.now.task in
    let m = c.args.m in
    let r = answer_of done c.lock-done.result in
    took s t i.index m.index r m.within c.requires.ready (at_both (λ x y. Told s t (Lock x y) r) c.into.ensures.0 c.from-lock.ensures.0 c.lock-done.ensures.answered)
