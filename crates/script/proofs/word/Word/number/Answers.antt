-- A number has a digit.
use Rattle.std.proofs.Common.{sym, ◌∙◌}
use Rattle.script.proofs.Keeping.{no-number, some-number, value-taken}
use Rattle.script.proofs.word.Word.number.Goals as goal

pub returns-then-is_empty : goal.returns-then-is_empty
returns-then-is_empty c = λ xs t. no-number xs (sym (c.is_empty.ensures xs t) ∙ c.if-is_empty.true)

pub returns : goal.returns
returns c = λ xs t. value-taken c.args.self.now xs t ∙ some-number xs (sym (c.is_empty.ensures xs t) ∙ c.if-is_empty.false)
