use Rattle.std.proofs.Common.{None}
use Rattle.sched.specs.Stores.{owner_of}
use Rattle.sched.proofs.Arrays.{reads-replicate}
use Rattle.sched.proofs.locks.Locks.new.Goals as goal

pub returns : goal.returns
unfolding owner_of
returns c = record { owners = reads-replicate owner_of None; rows = c.new.ensures }
