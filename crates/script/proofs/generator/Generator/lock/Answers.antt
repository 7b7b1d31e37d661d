-- 4 stands for no lock.
use Rattle.script.proofs.Drawing.{lock-none, lock-some}
use Rattle.script.proofs.generator.Generator.lock.Goals as goal

pub returns-then-m-eq4 : goal.returns-then-m-eq4
returns-then-m-eq4 c = lock-none c.args.self.now.state c.below-m.result c.below-m.new.self.state c.below-m.ensures.value c.if-m-eq4.true

pub returns-else-m-eq4 : goal.returns-else-m-eq4
returns-else-m-eq4 c = lock-some c.args.self.now.state c.below-m.result c.below-m.new.self.state c.below-m.ensures.value c.if-m-eq4.false
