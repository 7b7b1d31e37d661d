-- A new recorder's log comes to the empty house; what it holds after the hours is legal by its type.
use Rattle.std.proofs.Common.{ap}
use Rattle.sched.specs.House.{empty}
use Rattle.memory.specs.Run.{outcome}
use Rattle.memory.specs.Recorded.{entries_of}
use Rattle.memory.proofs.Runs.{legal-run}
use Rattle.memory.proofs.play.recorded.Goals as goal

pub hours-requires : goal.hours-requires
unfolding outcome
hours-requires c = record { begins = ap (outcome empty) c.in_ok-w.ensures.1 }

pub returns : goal.returns
returns c = legal-run empty (entries_of c.hours.new.w) c.hours.new.w.lawful
