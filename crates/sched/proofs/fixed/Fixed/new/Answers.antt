use Rattle.sched.specs.Stores.{keep}
use Rattle.sched.proofs.fixed.Fixed.new.Goals as goal

pub returns : goal.returns
unfolding keep
returns c = c.new.ensures
