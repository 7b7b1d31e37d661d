use Rattle.std.proofs.Common.{sym, ◌∙◌}
use Rattle.sched.proofs.Guarded.{let_through}
use Rattle.sched.proofs.guard.Guard.call.Goals as goal

pub returns-clause-answered : goal.returns-clause-answered
returns-clause-answered c =
    let self = c.args.self.now in
    let_through self.scheduler.now c.call.new.self self.task.index c.args.c c.call.result (sym c.concerns.ensures ∙ c.if-concerns.false) c.call.ensures.answered
