-- A word that is kept is all of it.
use Rattle.std.proofs.Common.{◌∙◌}
use Rattle.script.specs.Taken.{name_of}
use Rattle.script.proofs.Keeping.{kept, let_go, name-taken, name-told}
use Rattle.script.proofs.word.Word.name.Goals as goal

pub returns-in-Some : goal.returns-in-Some
returns-in-Some c = λ xs t. name-told c.get.result c.in-Some.name xs (kept name_of 8 xs c.in-Some.name (name-taken c.args.self.now xs t ∙ c.in-Some.is)) c.get.ensures.lookup

pub returns-in-None : goal.returns-in-None
returns-in-None c = λ xs t. let_go name_of 8 xs (name-taken c.args.self.now xs t ∙ c.in-None.is)
