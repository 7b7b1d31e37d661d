-- Each test of the code is the one of the rules, in their order; then the task is gone and leaves its share.
use Rattle.std.proofs.Common.{sym, ◌∙◌}
use Rattle.sched.specs.declared.refusal.Refusal.TheVariants.{NoTask, Waits, OwnsLock}
use Rattle.sched.proofs.Told.{turned-away, refused-for, went-through, holds-locked}
use Rattle.sched.proofs.Changes.{stores-ended}
use Rattle.sched.proofs.model.CallWays.{ended}
use Rattle.sched.proofs.model.Outcomes.{end_none, end-waits, end-owns, end-done}
use Rattle.sched.proofs.Scheduler.end.Goals as goal

pub returns-in_err-i : goal.returns-in_err-i
returns-in_err-i c =
    let none = c.in_err-i.ensures in
    turned-away NoTask c.from_residual.ensures.1 none.0 (λ h k. end_none h c.args.number (none.1 h k))

pub returns-in_err-not_waiting : goal.returns-in_err-not_waiting
returns-in_err-not_waiting c =
    let i = c.in_ok-i.i in
    let found = c.in_ok-i.ensures in
    let waits = c.in_err-not_waiting.ensures in
    rw (← found.0) (turned-away Waits c.from_residual-in_err-not_waiting.ensures.1 waits.0 (λ h k. end-waits h i.index (found.1 h k) (waits.1 h k)))

pub returns-then-owns_any : goal.returns-then-owns_any
returns-then-owns_any c =
    let s = c.args.self.now in
    let i = c.in_ok-i.i in
    let found = c.in_ok-i.ensures in
    rw (← found.0) (refused-for OwnsLock (λ h k.
    end-owns h i.index (found.1 h k) (c.in_ok-not_waiting.ensures h k) (sym (c.owns_any.ensures h (holds-locked s h k)) ∙ c.if-owns_any.true)))

pub returns : goal.returns
returns c =
    let s = c.args.self.now in
    let i = c.in_ok-i.i in
    let found = c.in_ok-i.ensures in
    rw (← found.0) (went-through _ (ended i.index)
    (λ h k. end-done h i.index (found.1 h k) (c.in_ok-not_waiting.ensures h k) (sym (c.owns_any.ensures h (holds-locked s h k)) ∙ c.if-owns_any.false))
    (λ h k. stores-ended s h k.stores c.clear.new.self c.ended.new.self i.index c.leaves-left.result c.slot.result i.within c.clear.ensures.slots c.clear.ensures.awake c.slot.ensures c.leaves-left.ensures c.ended.ensures))
