-- Every link and every pair of ends is the one that the array repeats.
use Rattle.queues.proofs.Told.{empty_holds}
use Rattle.queues.proofs.fifo.Queues.new.Goals as goal

pub returns : goal.returns
returns c = empty_holds _ _ c.into-3.ensures c.into-4.ensures c.into-5.ensures
