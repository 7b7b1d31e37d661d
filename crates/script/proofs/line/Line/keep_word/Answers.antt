-- The word is kept while a command can have as many.
use Rattle.std.proofs.Common.{◌∷◌, [], ◌++◌, length, ap, sym, ◌∙◌, arith}
use Rattle.script.specs.Taken.{vec_of}
use Rattle.script.proofs.Keeping.{kept-more, full-more, none-more, err_says, ok_says, room_says}
use Rattle.script.proofs.Reading.{kept_words}
use Rattle.script.proofs.line.Line.keep_word.Goals as goal

pub returns-then-is_err : goal.returns-then-is_err
returns-then-is_err c =
    λ ws e.
    let full = err_says c.try_push.result (sym c.is_err.ensures.value ∙ c.if-is_err.true) c.try_push.ensures.full in
    full-more vec_of 3 ws c.args.self.now.last (omega (arith, full, ap length (kept_words ws c.in-Some.ended (sym e ∙ c.in-Some.is))))

pub returns-else-is_err : goal.returns-else-is_err
returns-else-is_err c =
    λ ws e.
    let no = sym c.is_err.ensures.value ∙ c.if-is_err.false in
    let k = kept_words ws c.in-Some.ended (sym e ∙ c.in-Some.is) in
    kept-more vec_of 3 ws c.args.self.now.last c.try_push.new.self (omega (arith, room_says c.try_push.result no c.try_push.ensures.variant, ap length k))
    (ap vec_of (ok_says c.try_push.result no c.try_push.ensures.ok ∙ ap (λ us. us ++ (c.args.self.now.last ∷ [])) k))

pub returns-in_default : goal.returns-in_default
returns-in_default c = λ ws e. c.in_default.is ∙ none-more vec_of 3 ws c.args.self.now.last (sym e ∙ c.in_default.is)
