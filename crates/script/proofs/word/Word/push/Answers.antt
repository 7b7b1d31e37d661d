-- One byte more: it is kept while there is room.
use Rattle.std.proofs.Common.{◌<◌, ◌≤◌, ◌∷◌, [], ◌++◌, length, ap, ◌∙◌, arith}
use Rattle.script.specs.declared.word.Name.{Name}
use Rattle.script.specs.Taken.{name_of}
use Rattle.script.proofs.Keeping.{kept, kept-more, full-more, none-more, name-more, name-taken, value-taken, as_word}
use Rattle.script.proofs.word.Word.push.Goals as goal

pub returns-then-name-lt-LONGEST : goal.returns-then-name-lt-LONGEST
returns-then-name-lt-LONGEST c =
    λ xs t.
    let k = kept name_of 8 xs c.in-Some.name (name-taken c.args.self.now xs t ∙ c.in-Some.is) in
    let l : length xs < 8 = omega (arith, ap (λ (h : Name). h.len) k.1, c.if-name-lt-LONGEST.true) in
    as_word _ _ (xs ++ (c.args.byte ∷ [])) (kept-more name_of 8 xs c.args.byte _ l (name-more c.in-Some.name xs c.args.byte k.1 l)) (c.one_digit_more-self.ensures xs (value-taken c.args.self.now xs t))

pub returns-else-name-lt-LONGEST : goal.returns-else-name-lt-LONGEST
returns-else-name-lt-LONGEST c =
    λ xs t.
    let k = kept name_of 8 xs c.in-Some.name (name-taken c.args.self.now xs t ∙ c.in-Some.is) in
    let l : 8 ≤ length xs = omega (arith, ap (λ (h : Name). h.len) k.1, c.if-name-lt-LONGEST.false) in
    as_word _ _ (xs ++ (c.args.byte ∷ [])) (full-more name_of 8 xs c.args.byte l) (c.one_digit_more-self.ensures xs (value-taken c.args.self.now xs t))

pub returns-in_default : goal.returns-in_default
returns-in_default c =
    λ xs t.
    as_word _ _ (xs ++ (c.args.byte ∷ [])) (c.in_default.is ∙ none-more name_of 8 xs c.args.byte (name-taken c.args.self.now xs t ∙ c.in_default.is)) (c.one_digit_more-self.ensures xs (value-taken c.args.self.now xs t))
