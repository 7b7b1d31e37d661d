-- So far the log holds a legal run of the script, an entry a turn, and the scheduler stands for the house that it comes to.
use Rattle.std.proofs.Common.{◌≤◌}
use Rattle.memory.proofs.Turns.{Turn}
use Rattle.memory.proofs.play.play.Given as goal

abbrev pub invariant-loop : goal.invariant-loop
invariant-loop g l = Turn g.S.AsStep.step g.E.AsEntry.entry l.initial.w l.w l.s l.counter × (l.counter ≤ l.many)
