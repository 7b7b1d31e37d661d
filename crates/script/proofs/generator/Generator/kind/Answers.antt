-- One way for each kind.
use Rattle.std.proofs.Common.{arith}
use Rattle.script.proofs.Drawing.{kind-reserved, kind-fixed, kind-fair}
use Rattle.script.proofs.generator.Generator.kind.Goals as goal

pub returns-in-0-to-1 : goal.returns-in-0-to-1
returns-in-0-to-1 c =
    kind-reserved c.args.self.now.state c.below.result c.below.new.self.state c.below.ensures.value
    c.period-period.result c.period-period.new.self.state c.below-quota.result c.below-quota.new.self.state (omega arith) c.period-period.ensures c.below-quota.ensures.value

pub returns-in-2 : goal.returns-in-2
returns-in-2 c = kind-fixed c.args.self.now.state c.below.result c.below.new.self.state c.below.ensures.value c.pick.result c.pick.new.self.state (omega arith) c.pick.ensures

pub returns-in_default : goal.returns-in_default
returns-in_default c =
    kind-fair c.args.self.now.state c.below.result c.below.new.self.state c.below.ensures.value
    c.pick-in_default.result c.pick-in_default.new.self.state (omega arith) (λ z. omega (arith, z)) c.pick-in_default.ensures
