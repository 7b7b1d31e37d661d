-- An array of equal positions, none of which stands for a task.
use Rattle.std.proofs.Common.{ap, ◌∙◌}
use Rattle.sched.proofs.positions.Standing.{fairly-new}
use Rattle.sched.proofs.fair.Fair.new.Goals as goal

pub returns : goal.returns
returns c = fairly-new c.start-start.result c.start-start.ensures.whole c.start-start.ensures.rest (ap (λ w. w.value) c.start-start.ensures.weight ∙ c.one.ensures)
