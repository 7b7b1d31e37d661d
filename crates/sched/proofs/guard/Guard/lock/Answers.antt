-- It holds no lock twice: with 64 of them there is none left to take.
use Rattle.std.proofs.Common.{◌≤◌, length, sym, arith, ◌∙◌}
use Rattle.std.proofs.lemmas.Bool.{eqb-true}
use Rattle.std.proofs.lemmas.List.{length-reverse}
use Rattle.sched.specs.Held.{locks_of}
use Rattle.sched.proofs.Guarded.{full-cannot}
use Rattle.sched.proofs.guard.Guard.lock.Goals as goal

pub returns-then-is_full-clause-value : goal.returns-then-is_full-clause-value
returns-then-is_full-clause-value c h k held =
    let self = c.args.self.now in
    let full : 64 ≤ length (locks_of self.locks) = omega (arith, length-reverse self.locks.items, eqb-true _ _ (sym c.is_full.ensures.value ∙ c.if-is_full.true)) in
    sym (full-cannot self.scheduler.now h k self.task.index c.args.m.index (locks_of self.locks) c.args.m.within held full)
