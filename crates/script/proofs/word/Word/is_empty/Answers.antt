-- A word that is kept is all of it, and one that is too long isn't empty.
use Rattle.std.proofs.Common.{length, eqb, sym, ap, ◌∙◌, arith}
use Rattle.std.proofs.lemmas.Bool.{ne_eqb}
use Rattle.script.specs.declared.word.Name.{Name}
use Rattle.script.specs.Taken.{name_of}
use Rattle.script.proofs.Keeping.{kept, let_go, name-taken}
use Rattle.script.proofs.word.Word.is_empty.Goals as goal

pub returns-in-Some : goal.returns-in-Some
returns-in-Some c = λ xs t. ap (λ (h : Name). eqb h.len 0) (kept name_of 8 xs c.in-Some.name (name-taken c.args.self.now xs t ∙ c.in-Some.is)).1

pub returns-in-None : goal.returns-in-None
returns-in-None c = λ xs t. sym (ne_eqb (length xs) 0 (λ z. omega (arith, z, let_go name_of 8 xs (name-taken c.args.self.now xs t ∙ c.in-None.is))))
