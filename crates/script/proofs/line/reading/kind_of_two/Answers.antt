-- The name is read byte by byte, and is too long a text for the check to put together alone.
use Rattle.std.proofs.Common.{◌≡◌, codes, None, true, sym, ap, ◌∙◌, arith, rules}
use Rattle.std.proofs.lemmas.Bool.{cond-true}
use Rattle.std.proofs.lemmas.Slice.Eq.{text_from_reads}
use Rattle.script.specs.Grammar.{is}
use Rattle.script.proofs.line.reading.kind_of_two.Goals as goal

pub returns-in-reserved : goal.returns-in-reserved
returns-in-reserved c =
    λ a t.
    let e : c.in_ok-name.field-0.now ≡ codes "reserved" = text_from_reads _ (codes "reserved") (omega (arith, c.in-reserved.len_at_least, c.in-reserved.len_below)) (search rules) in
    let q : is a "reserved" ≡ true = ap (λ w. is w "reserved") (sym (c.in_ok-name.ensures a t) ∙ e) in
    sym (cond-true (is a "reserved") _ None q)
