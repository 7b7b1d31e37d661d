use Rattle.sched.proofs.Guarded.{goes_by}
use Rattle.sched.proofs.guard.Guard.pick.Goals as goal

pub returns-clause-ticked : goal.returns-clause-ticked
returns-clause-ticked c =
    let self = c.args.self.now in
    let r = c.pick.result in
    goes_by self.scheduler.now c.pick.new.self self.task.index r.0 r.1 c.pick.ensures
