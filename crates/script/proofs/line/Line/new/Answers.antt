-- No byte has been taken in.
use Rattle.script.proofs.Reading.{fresh}
use Rattle.script.proofs.line.Line.new.Goals as goal

pub returns : goal.returns
returns c = fresh c.new.result c.new-2.result c.new.ensures c.new-2.ensures
