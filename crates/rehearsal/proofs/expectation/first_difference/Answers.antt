-- The next line is met, or isn't, or there is none.
use Rattle.std.proofs.Common.{◌∙◌}
use Rattle.rehearsal.specs.Cuts.{left}
use Rattle.rehearsal.proofs.Meeting.{lines_more, lines-apart, no_lines_left}
use Rattle.rehearsal.proofs.expectation.first_difference.Goals as goal

pub returns-then-not-met : goal.returns-then-not-met
returns-then-not-met c =
    lines-apart c.loop-want.number (left c.loop-want.want-iterator) (left c.loop-want.lines) (left c.next.new.self) c.in-Some.want.now c.in-Some.ensures.steps c.if-not-met.ensures
    ∙ c.loop-want.invariant.2

pub loop-want-preserved : goal.loop-want-preserved
loop-want-preserved c = (
  tt,
  tt,
  lines_more
      c.loop-want.number
      c.saturating_add-number.result
      (left c.loop-want.want-iterator)
      (left c.loop-want.lines)
      (left c.next.new.self)
      (left c.met.new.lines)
      c.in-Some.want.now
      c.in-Some.ensures.steps
      c.if-not-met.ensures
      c.saturating_add-number.ensures
      ∙ c.loop-want.invariant.2,
)

pub returns : goal.returns
returns c =
    no_lines_left c.loop-want.number (left c.loop-want.want-iterator) (left c.loop-want.lines) c.only_if_left.result c.in-None.ensures.steps.0 c.only_if_left.ensures ∙ c.loop-want.invariant.2
