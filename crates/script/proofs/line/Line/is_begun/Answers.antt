-- A line has no byte if it is one empty word.
use Rattle.std.proofs.Common.{◌≡◌, ◌&&◌, not, false, eqb, length, map, ap, sym, ◌∙◌, arith}
use Rattle.std.proofs.lemmas.Bool.{ne_eqb}
use Rattle.std.proofs.lemmas.List.{length-map}
use Rattle.script.specs.Taken.{vec_of, word_of}
use Rattle.script.proofs.Keeping.{let_go}
use Rattle.script.proofs.Reading.{kept_words}
use Rattle.script.proofs.Splitting.{words-begun}
use Rattle.script.proofs.line.Line.is_begun.Goals as goal
use Rattle.script.proofs.line.Line.is_begun.Goals.{then-is_empty, else-is_empty}

pub returns-after-is_empty : goal.returns-after-is_empty
returns-after-is_empty c =
    λ xs t.
    let k = kept_words (map word_of t.ended_words) c.in-Some.ended (sym t.ended ∙ c.in-Some.is) in
    let n : eqb (length t.ended_words) 0 ≡ c.is_empty.result = sym (c.is_empty.ensures ∙ ap (λ ws. eqb (length ws) 0) k ∙ ap (λ m. eqb m 0) (length-map t.ended_words word_of)) in
    (elim c.if-is_empty.branch [
      | then-is_empty w ↦ ap not (w.result-is ∙ w.is_empty-then-is_empty.ensures t.last_word t.last ∙ ap (λ b. b && eqb (length t.last_word) 0) (sym (n ∙ w.if-is_empty.true)))
      | else-is_empty w ↦ ap not (w.result-is ∙ w.if-is_empty.false ∙ ap (λ b. b && eqb (length t.last_word) 0) (sym (n ∙ w.if-is_empty.false)))
    ])
    ∙ sym (words-begun xs t.ended_words t.last_word t.cut)

pub returns-in-None : goal.returns-in-None
returns-in-None c =
    λ xs t.
    let l = let_go vec_of 3 (map word_of t.ended_words) (sym t.ended ∙ c.in-None.is) in
    let f : eqb (length t.ended_words) 0 ≡ false = ne_eqb (length t.ended_words) 0 (λ z. omega (arith, z, l, length-map t.ended_words word_of)) in
    sym (words-begun xs t.ended_words t.last_word t.cut ∙ ap (λ b. not (b && eqb (length t.last_word) 0)) f)
