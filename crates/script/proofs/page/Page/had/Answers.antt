-- One count more.
use Rattle.std.proofs.Common.{◌+◌, ◌≤◌, ◌++◌, length, take, None, sym, ap, ◌∙◌, arith}
use Rattle.std.proofs.lemmas.List.{take_more}
use Rattle.script.specs.Printed.{pending}
use Rattle.script.specs.Text.{counts_text}
use Rattle.script.proofs.Pages.{wrote_more, counts_push}
use Rattle.script.proofs.page.Page.had.Goals as goal

pub loop-count-preserved : goal.loop-count-preserved
loop-count-preserved c =
    λ room.
    let k = c.loop-count.count-index in
    let cs = c.args.counts.now in
    let i = c.loop-count.invariant room in
    let r : length (pending c.loop-count.self) + 21 ≤ 65536 = omega (arith, room, i.1, c.requires, c.loop-count-test.true) in (
      wrote_more c.text.new.self c.loop-count.self c.count.new.self _ _ i.0 (c.count.ensures.text r)
          ∙ ap (λ t. pending c.text.new.self ++ t) (sym (ap counts_text (take_more cs k None c.loop-count-test.true) ∙ counts_push (take k cs) _)),
      omega (arith, i.1, c.count.ensures.most r),
    )
