-- A tick half of the time, and else a call.
use Rattle.std.proofs.Common.{arith}
use Rattle.script.proofs.Drawing.{step-tick, step_call}
use Rattle.script.proofs.generator.Generator.next_step.Goals as goal

pub returns-in-0-to-31 : goal.returns-in-0-to-31
returns-in-0-to-31 c = step-tick c.args.self.now.state c.below.result c.below.new.self.state c.below.ensures.value (omega arith)

pub returns-in_default : goal.returns-in_default
returns-in_default c = step_call c.args.self.now.state c.below.result c.below.new.self.state c.below.ensures.value c.call.result c.call.new.self.state (omega arith) c.call.ensures
