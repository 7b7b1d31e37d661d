-- Each turn is one step along the chain; a step more changes nothing at its end.
use Rattle.std.proofs.Common.{◌≡◌, ◌-◌, sym, ap, ◌∙◌, arith}
use Rattle.sched.specs.House.{runner}
use Rattle.sched.proofs.model.Runner.{runner-self}
use Rattle.sched.proofs.Waiting.{runner-steps}
use Rattle.sched.proofs.locks.Locks.runner.Goals as goal

pub loop-step-preserved : goal.loop-step-preserved
loop-step-preserved c h k =
    let e = c.in-Some.ensures h k in
    sym (runner-steps h c.loop-step.step c.loop-step.at.index _ c.loop-step-test.true e.0 e.1) ∙ c.loop-step.invariant h k

pub returns-in_default : goal.returns-in_default
returns-in_default c h k = sym (runner-self h (64 - c.loop-step.step) c.loop-step.at.index (c.in_default.ensures h k)) ∙ c.loop-step.invariant h k

pub returns : goal.returns
unfolding runner
returns c h k =
    let e : 64 - c.loop-step.step ≡ 0 = omega arith in
    sym (ap (λ n. runner n h c.loop-step.at.index) e) ∙ c.loop-step.invariant h k
