-- The number of words says which form the command has.
use Rattle.std.proofs.Common.{◌∙◌, arith}
use Rattle.script.proofs.Reading.{as_none, as-one, as-two, as-three, as-four, their_words}
use Rattle.script.proofs.line.Line.command.Goals as goal

pub returns-in_err-as_ref : goal.returns-in_err-as_ref
returns-in_err-as_ref c = λ xs t. c.from_residual.ensures ∙ as_none c.args.self.now xs t c.in_err-as_ref.ensures.value

pub returns-in-empty : goal.returns-in-empty
returns-in-empty c =
    λ xs t.
    as-one xs t.last_word c.args.self.now.last t.last c.one_word.result c.as_slice.result.now t.ended_words t.cut
    (c.as_slice.ensures.value ∙ their_words c.args.self.now xs t c.in_ok-as_ref.field-0.now c.in_ok-as_ref.ensures.value) c.in-empty.len_below c.one_word.ensures

pub returns-in-len1 : goal.returns-in-len1
returns-in-len1 c =
    λ xs t.
    as-two xs t.last_word c.args.self.now.last t.last c.two_words.result c.as_slice.result.now t.ended_words t.cut
    (c.as_slice.ensures.value ∙ their_words c.args.self.now xs t c.in_ok-as_ref.field-0.now c.in_ok-as_ref.ensures.value) (omega (arith, c.in-len1.len_at_least, c.in-len1.len_below))
    _ c.two_words.ensures

pub returns-in-len2 : goal.returns-in-len2
returns-in-len2 c =
    λ xs t.
    as-three xs t.last_word c.args.self.now.last t.last c.three_words.result c.as_slice.result.now t.ended_words t.cut
    (c.as_slice.ensures.value ∙ their_words c.args.self.now xs t c.in_ok-as_ref.field-0.now c.in_ok-as_ref.ensures.value) (omega (arith, c.in-len2.len_at_least, c.in-len2.len_below))
    _ _ c.three_words.ensures

pub returns-in-len3 : goal.returns-in-len3
returns-in-len3 c =
    λ xs t.
    as-four xs t.last_word c.args.self.now.last t.last c.four_words.result c.as_slice.result.now t.ended_words t.cut
    (c.as_slice.ensures.value ∙ their_words c.args.self.now xs t c.in_ok-as_ref.field-0.now c.in_ok-as_ref.ensures.value) (omega (arith, c.in-len3.len_at_least, c.in-len3.len_below))
    _ _ _ c.four_words.ensures
