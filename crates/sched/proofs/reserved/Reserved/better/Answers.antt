use Rattle.std.proofs.Common.{sym, refl, ◌∙◌}
use Rattle.sched.proofs.Soonest.{best-skip, best-keep, best-take}
use Rattle.sched.proofs.reserved.Reserved.better.Goals as goal
use Rattle.sched.proofs.reserved.Reserved.better.Goals.{else-is_due-via-then-is_due+else-goes_before, else-is_due-via-else-is_due}

pub returns-then-goes_before : goal.returns-then-goes_before
returns-then-goes_before c h slots asks windows b =
    best-take h c.args.i.index c.args.best c.goes_before.result c.args.i refl (sym (c.is_due.ensures h slots asks windows) ∙ c.if-is_due.true) c.if-goes_before.true (c.goes_before.ensures h.window windows) b

pub returns : goal.returns
returns c h slots asks windows b =
    elim c.else-is_due.branch [
      | else-is_due-via-then-is_due+else-goes_before w ↦
          best-keep h c.args.i.index c.args.best w.goes_before.result w.if-goes_before.false (w.goes_before.ensures h.window windows) b
      | else-is_due-via-else-is_due w ↦ best-skip h c.args.i.index c.args.best (sym (c.is_due.ensures h slots asks windows) ∙ w.if-is_due.false) b
    ]
