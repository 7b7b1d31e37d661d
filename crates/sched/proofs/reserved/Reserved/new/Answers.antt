use Rattle.sched.specs.Stores.{window_of, shut}
use Rattle.sched.proofs.Arrays.{reads-replicate}
use Rattle.sched.proofs.reserved.Reserved.new.Goals as goal

pub returns : goal.returns
unfolding window_of
returns c = reads-replicate window_of shut
