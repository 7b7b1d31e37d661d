-- Nothing has been taken in.
use Rattle.std.proofs.Common.{[], refl, sym, arith}
use Rattle.script.specs.Grammar.{value_of, value_after, all_digits}
use Rattle.script.specs.Taken.{name_of}
use Rattle.script.proofs.Keeping.{fits, as_word}
use Rattle.script.proofs.word.Word.new.Goals as goal

pub returns : goal.returns
unfolding value_of value_after all_digits
returns c = as_word _ _ [] (sym (fits name_of 8 [] (omega arith))) refl
