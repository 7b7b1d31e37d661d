use Rattle.sched.specs.Held.{locks_of}
use Rattle.sched.proofs.Guarded.{gave}
use Rattle.sched.proofs.guard.Guard.drop.Goals as goal

pub returns : goal.returns
returns c =
    let self = c.args.self in
    record { given = gave self.scheduler.now c.unlock_all.new.self self.task.index (locks_of self.locks) c.unlock_all.ensures }
