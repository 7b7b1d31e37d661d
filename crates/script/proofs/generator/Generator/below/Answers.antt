-- The product and the sum may wrap one after the other.
use Rattle.std.proofs.Common.{arith}
use Rattle.script.proofs.Drawing.{below-is}
use Rattle.script.proofs.generator.Generator.below.Goals as goal

pub returns : goal.returns
returns c = record { value = below-is c.args.self.now.state c.args.bound c.from.result c.from.ensures; less = omega (arith, c.from.ensures, c.requires) }
