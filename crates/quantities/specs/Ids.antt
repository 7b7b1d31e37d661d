-- The names of tasks, locks, queues and ranks, as the clauses above have them.
-- Assumes nothing.
use Rattle.quantities.specs.declared.ids.Id.{Id}
use Rattle.quantities.specs.declared.ids.Task.{Task}
use Rattle.quantities.specs.declared.ids.Lock.{Lock}
use Rattle.quantities.specs.declared.ids.Queue.{Queue}
use Rattle.quantities.specs.declared.ids.Order.{Order}

abbrev pub TaskId : Type 0
TaskId = Id Task 64

abbrev pub LockId : Type 0
LockId = Id Lock 64

abbrev pub QueueId : Type 0
QueueId = Id Queue 64

abbrev pub Rank : Type 0
Rank = Id Order 16
