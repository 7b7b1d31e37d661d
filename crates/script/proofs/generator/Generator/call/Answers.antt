-- One way for each call.
use Rattle.std.proofs.Common.{arith}
use Rattle.script.proofs.Drawing.{call-make, call-end, call-wake, call-sleep, call-lock, call-unlock}
use Rattle.script.proofs.generator.Generator.call.Goals as goal

pub returns-in-0-to-33 : goal.returns-in-0-to-33
returns-in-0-to-33 c = call-make c.args.number c.args.self.now.state c.kind.result c.kind.new.self.state (omega arith) c.kind.ensures

pub returns-in-34-to-39 : goal.returns-in-34-to-39
returns-in-34-to-39 c = call-end c.args.number c.args.self.now.state c.below.result c.below.new.self.state (omega arith) (omega arith) c.below.ensures.value

pub returns-in-40-to-46 : goal.returns-in-40-to-46
returns-in-40-to-46 c = call-wake c.args.number c.args.self.now.state c.pick.result c.pick.new.self.state (omega arith) (omega arith) c.pick.ensures

pub returns-in-47-to-48 : goal.returns-in-47-to-48
returns-in-47-to-48 c = call-sleep c.args.number c.args.self.now.state c.pick-in-47-to-48.result c.pick-in-47-to-48.new.self.state (omega arith) (omega arith) c.pick-in-47-to-48.ensures

pub returns-in-49-to-51 : goal.returns-in-49-to-51
returns-in-49-to-51 c =
    call-lock c.args.number c.args.self.now.state c.below-in-49-to-51.result c.below-in-49-to-51.new.self.state c.lock.result c.lock.new.self.state
    (omega arith) (omega arith) c.below-in-49-to-51.ensures.value c.lock.ensures

pub returns-in_default : goal.returns-in_default
returns-in_default c =
    call-unlock c.args.number c.args.self.now.state c.below-in_default.result c.below-in_default.new.self.state c.lock-in_default.result c.lock-in_default.new.self.state
    (omega arith) c.below-in_default.ensures.value c.lock-in_default.ensures
