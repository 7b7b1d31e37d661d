-- What the digits come to with one more.
use Rattle.std.proofs.Common.{sym, ◌∙◌, arith}
use Rattle.script.proofs.Numbers.{other-more, none_more, over-more, added, no_digit, digit}
use Rattle.script.proofs.word.one_digit_more.Goals as goal

pub returns-in_err-digit : goal.returns-in_err-digit
returns-in_err-digit c = λ xs e. c.from_residual.ensures ∙ sym (other-more xs c.args.byte (no_digit c.args.byte (rw c.from.ensures at c.in_err-digit.ensures.cases)))

pub returns-in_err-value : goal.returns-in_err-value
returns-in_err-value c = λ xs e. c.from_residual-in_err-value.ensures ∙ sym (none_more xs c.args.byte (sym e ∙ c.in_err-value.was))

pub returns-in_err-checked_mul : goal.returns-in_err-checked_mul
returns-in_err-checked_mul c =
    λ xs e. c.from_residual-in_err-checked_mul.ensures ∙ sym (over-more xs c.args.byte c.in_ok-value.field-0 (sym e ∙ c.in_ok-value.was) (omega (arith, c.in_err-checked_mul.ensures)))

pub returns : goal.returns
returns c =
    λ xs e.
    let v = c.in_ok-digit.ensures.value in
    let d = digit c.args.byte c.in_ok-digit.digit (rw c.from.ensures at c.in_ok-digit.ensures.cases) (omega (arith, v.0, v.1)) in
    added c.checked_add.result xs c.args.byte c.in_ok-value.field-0 c.in_ok-checked_mul.field-0 c.in_ok-digit.digit
    (sym e ∙ c.in_ok-value.was) d.0 c.in_ok-checked_mul.ensures.1 d.1 c.checked_add.ensures
