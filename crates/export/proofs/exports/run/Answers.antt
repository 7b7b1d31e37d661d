-- Nothing is written yet, which comes to the empty house.
use Rattle.std.proofs.Common.{ℕ, map, take, ap}
use Rattle.sched.specs.House.{empty}
use Rattle.memory.specs.Run.{outcome}
use Rattle.export.specs.Wire.{entry_of}
use Rattle.export.proofs.exports.run.Goals as goal

pub hours-requires : goal.hours-requires
unfolding outcome
hours-requires c = record { begins = ap (λ (n : ℕ). outcome empty (take n (map entry_of c.new-w.result.log.now))) c.new-w.ensures.used }
