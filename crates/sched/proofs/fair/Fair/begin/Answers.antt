-- Each place is asked in its turn; then the mark is raised.
use Rattle.std.proofs.Common.{◌≡◌, ◌+◌, sym, ◌∙◌, subst, inl, inr}
use Rattle.sched.specs.House.{fair_wants, opened}
use Rattle.sched.specs.Begun.{Begins}
use Rattle.sched.proofs.positions.Beginning.{begins-first, asked}
use Rattle.sched.proofs.fair.Fair.begin.Goals as goal
use Rattle.sched.proofs.fair.Fair.begin.Goals.{then-is_fair, else-is_fair}

pub loop-i-preserved : goal.loop-i-preserved
loop-i-preserved c base h comes slots wanting begins =
    let is = c.in-Some.ensures.steps.0 in
    let asks : c.if-is_fair.ask ≡ fair_wants (opened h) c.in-Some.i.index = asked h c.args.tasks.now.slots c.args.wants.now.flags c.in-Some.i.index c.slot.result c.is_fair.result c.if-is_fair.ask slots wanting c.slot.ensures c.is_fair.ensures
    (elim c.if-is_fair.branch [ then-is_fair v ↦ inl (v.if-is_fair.true, v.ask-is ∙ v.of.ensures) | else-is_fair v ↦ inr (v.if-is_fair.false, v.ask-is ∙ v.if-is_fair.false) ]) in
    let before = subst (λ k. Begins base k c.loop-i.self h) (sym is) (c.loop-i.invariant base h comes slots wanting begins) in
    rw c.in-Some.ensures.steps.1 (subst (λ k. Begins base (k + 1) c.ask.new.self h) is (c.ask.ensures base h comes asks before))

pub returns : goal.returns
returns c h comes slots wanting fairly =
    let e : c.loop-i.i-iterator.next ≡ 64 = c.in-None.ensures.steps.0 in
    c.raise_mark.ensures fairly.base h comes (subst (λ k. Begins fairly.base k c.loop-i.self h) e (c.loop-i.invariant fairly.base h comes slots wanting (begins-first c.args.self.now fairly)))
