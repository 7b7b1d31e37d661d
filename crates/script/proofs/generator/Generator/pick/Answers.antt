-- One draw says below which number the next one is.
use Rattle.script.proofs.Drawing.{pick-seldom, pick-often}
use Rattle.script.proofs.generator.Generator.pick.Goals as goal

pub returns-then-below-eq0 : goal.returns-then-below-eq0
returns-then-below-eq0 c =
    pick-seldom c.args.often c.args.seldom c.args.self.now.state c.below.result c.below.new.self.state c.below.ensures.value _ c.if-below-eq0.true c.below-then-below-eq0.ensures.value

pub returns-else-below-eq0 : goal.returns-else-below-eq0
returns-else-below-eq0 c =
    pick-often c.args.often c.args.seldom c.args.self.now.state c.below.result c.below.new.self.state c.below.ensures.value _ c.if-below-eq0.false c.below-else-below-eq0.ensures.value
