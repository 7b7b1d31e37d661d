-- The word is kept while a command can have as many, and the next one is empty.
use Rattle.script.proofs.Reading.{spaced}
use Rattle.script.proofs.line.Line.next_word.Goals as goal

pub returns : goal.returns
returns c = λ xs t. spaced c.args.self.now xs _ c.new-self.result c.new-self.ensures c.keep_word.ensures t
