-- The next line is a tick, or isn't, or there is none.
use Rattle.std.proofs.Common.{rules, ◌-◌, ◌+◌, cond, None, sym, ap, ◌∙◌, arith}
use Rattle.rehearsal.specs.Cuts.{left}
use Rattle.rehearsal.specs.Expected.{after_ticks}
use Rattle.rehearsal.proofs.Meeting.{next-tick, all-ticks}
use Rattle.rehearsal.proofs.expectation.are_ticks.Goals as goal

pub returns-then-not-is_some_and : goal.returns-then-not-is_some_and
returns-then-not-is_some_and c =
    let e =
    next-tick c.args.many c.loop-k._k (left c.loop-k.lines) (left c.next.new.self) _ c.is_some_and.result _ (omega arith) c.next.ensures.steps c.is_some_and.ensures (λ p q. search rules) in
    sym c.loop-k.invariant ∙ e ∙ ap (λ b. cond b (after_ticks (c.args.many - (c.loop-k._k + 1)) (left c.next.new.self)) None) c.if-not-is_some_and.true

pub loop-k-preserved : goal.loop-k-preserved
loop-k-preserved c =
    let e =
    next-tick c.args.many c.loop-k._k (left c.loop-k.lines) (left c.next.new.self) _ c.is_some_and.result _ (omega arith) c.next.ensures.steps c.is_some_and.ensures (λ p q. search rules) in
    sym (e ∙ ap (λ b. cond b (after_ticks (c.args.many - (c.loop-k._k + 1)) (left c.next.new.self)) None) c.if-not-is_some_and.false) ∙ c.loop-k.invariant

pub returns : goal.returns
returns c = sym c.loop-k.invariant ∙ all-ticks c.args.many c.loop-k._k (left c.loop-k.lines) (omega arith)
