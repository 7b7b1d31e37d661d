use Rattle.std.proofs.Common.{◌≡◌, sym, ◌∙◌, subst, arith}
use Rattle.queues.specs.Members as member
use Rattle.queues.specs.Outcomes.{First}
use Rattle.sched.specs.Midtick.{asking}
use Rattle.sched.proofs.Walks.{Walked, walk_at, walk-on, walk-found, walk_end, walk-all, queue-few}
use Rattle.sched.proofs.fixed.Fixed.first_wanting.Goals as goal

pub returns-then-of : goal.returns-then-of
returns-then-of c f h holds asks =
    let starts = subst (λ q. First (f q) c.front-at.result) c.from.ensures (c.front-at.ensures f holds) in
    walk-found (f c.args.rank.index) (asking h) c.loop-step.step c.loop-step.at c.in_ok-i.i c.in_ok-i.was (sym (c.of.ensures ∙ asks.at c.in_ok-i.i.index) ∙ c.if-of.true)
    (c.loop-step.invariant f h c.args.rank.index holds asks starts)

pub returns-in_err-i : goal.returns-in_err-i
returns-in_err-i c f h holds asks =
    let starts = subst (λ q. First (f q) c.front-at.result) c.from.ensures (c.front-at.ensures f holds) in
    rw c.from_residual.ensures (walk_end (f c.args.rank.index) (asking h) c.loop-step.step c.loop-step.at c.in_err-i.was (c.loop-step.invariant f h c.args.rank.index holds asks starts))

pub loop-step-preserved : goal.loop-step-preserved
loop-step-preserved c f h q holds asks starts =
    let w = c.loop-step.invariant f h q holds asks starts in
    walk-on (f q) (asking h) c.loop-step.step c.loop-step.at c.next-at.result c.in_ok-i.i c.in_ok-i.was (sym (c.of.ensures ∙ asks.at c.in_ok-i.i.index) ∙ c.if-of.false) w
    (c.next-at.ensures.behind f holds q w.done (member.rest w.left) (walk_at (f q) (asking h) c.loop-step.step c.loop-step.at c.in_ok-i.i c.in_ok-i.was w))

pub returns : goal.returns
returns c f h holds asks =
    let starts = subst (λ q. First (f q) c.front-at.result) c.from.ensures (c.front-at.ensures f holds) in
    let e : c.loop-step.step ≡ 64 = omega arith in
    let w = c.loop-step.invariant f h c.args.rank.index holds asks starts in
    walk-all (f c.args.rank.index) (asking h) c.loop-step.at (queue-few c.args.self.now.turn f c.args.rank.index holds)
    (subst (λ k. Walked (f c.args.rank.index) (asking h) k c.loop-step.at) e w)
