-- The table is the one of the definition.
use Rattle.script.proofs.Drawing.{period-is}
use Rattle.script.proofs.generator.Generator.period.Goals as goal

pub returns : goal.returns
returns c = period-is c.args.self.now.state c.below.result c.below.new.self.state c.below.ensures.value
