-- Another byte than a space goes to the word that is being taken in.
use Rattle.std.proofs.lemmas.Bool.{ne_eqb}
use Rattle.script.proofs.Reading.{lettered}
use Rattle.script.proofs.line.Line.push.Goals as goal

pub returns-else-byte-eq32 : goal.returns-else-byte-eq32
returns-else-byte-eq32 c = λ xs t. lettered c.args.self.now xs c.args.byte c.push.new.self (ne_eqb c.args.byte 32 c.if-byte-eq32.false) c.push.ensures t
