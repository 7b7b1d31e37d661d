use Rattle.sched.proofs.Choosing.{picked}
use Rattle.sched.proofs.Seeing.{holds-seen}
use Rattle.sched.proofs.Scheduler.pick.Goals as goal

pub returns : goal.returns
returns c h holds =
    let asks = c.now-wants.ensures h (holds-seen c.args.self.now h holds) in
    let begun = c.begin.ensures h holds asks in
    let chosen = c.choose-whose.ensures h begun asks in
    let stores = c.pass.ensures h begun chosen in
    picked h c.choose-whose.result c.named.result.0 c.named.result.1 chosen c.named.ensures.number
    (λ i. c.named.ensures.runs h i (record { comes = holds.comes; owners = stores.owners; rows = stores.rows })) c.pass.new.self holds.comes holds.quotas stores
