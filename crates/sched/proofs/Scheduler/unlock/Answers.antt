-- Each test of the code is the one of the rules, in their order; then the lock goes to the first in its row.
use Rattle.std.proofs.Common.{sym, refl, ◌∙◌}
use Rattle.std.proofs.lemmas.Bool.{le-leb, lt-leb}
use Rattle.sched.specs.declared.refusal.Refusal.TheVariants.{NoTask, BadNumber, Waits, NotOwner}
use Rattle.sched.proofs.Told.{turned-away, refused-for, went-through, holds-locked}
use Rattle.sched.proofs.Changes.{stores-gives}
use Rattle.sched.proofs.model.Outcomes.{gives, unlock-none, unlock-bad, unlock-waits, unlock-other, unlock-done}
use Rattle.sched.proofs.Scheduler.unlock.Goals as goal

pub returns-in_err-i : goal.returns-in_err-i
returns-in_err-i c =
    let none = c.in_err-i.ensures in
    turned-away NoTask c.from_residual.ensures.1 none.0 (λ h k. unlock-none h c.args.number c.args.lock (none.1 h k))

pub returns-in_err-m : goal.returns-in_err-m
returns-in_err-m c =
    let i = c.in_ok-i.i in
    let found = c.in_ok-i.ensures in
    rw (← found.0) (turned-away BadNumber c.from_residual-in_err-m.ensures.1 refl (λ h k. unlock-bad h i.index c.args.lock (found.1 h k) (le-leb 64 c.args.lock c.in_err-m.ensures)))

pub returns-in_err-not_waiting : goal.returns-in_err-not_waiting
returns-in_err-not_waiting c =
    let i = c.in_ok-i.i in
    let m = c.in_ok-m.m in
    let found = c.in_ok-i.ensures in
    let lock = c.in_ok-m.ensures in
    let waits = c.in_err-not_waiting.ensures in
    rw (← found.0, ← lock.0) (turned-away Waits c.from_residual-in_err-not_waiting.ensures.1 waits.0 (λ h k. unlock-waits h i.index m.index (found.1 h k) (lt-leb 64 m.index m.within) (waits.1 h k)))

pub returns-then-not-is_owner : goal.returns-then-not-is_owner
returns-then-not-is_owner c =
    let s = c.args.self.now in
    let i = c.in_ok-i.i in
    let m = c.in_ok-m.m in
    let found = c.in_ok-i.ensures in
    let lock = c.in_ok-m.ensures in
    rw (← found.0, ← lock.0) (refused-for NotOwner (λ h k.
    unlock-other h i.index m.index (found.1 h k) (lt-leb 64 m.index m.within) (c.in_ok-not_waiting.ensures h k) (sym (c.is_owner.ensures h (holds-locked s h k)) ∙ c.if-not-is_owner.true)))

pub returns : goal.returns
returns c =
    let s = c.args.self.now in
    let i = c.in_ok-i.i in
    let m = c.in_ok-m.m in
    let found = c.in_ok-i.ensures in
    let lock = c.in_ok-m.ensures in
    rw (← found.0, ← lock.0) (went-through _ (gives m.index)
    (λ h k. unlock-done h i.index m.index (found.1 h k) (lt-leb 64 m.index m.within) (c.in_ok-not_waiting.ensures h k) (sym (c.is_owner.ensures h (holds-locked s h k)) ∙ c.if-not-is_owner.false))
    (λ h k. stores-gives s h k.stores c.pass_on.new.self m.index c.pass_on.ensures.owners c.pass_on.ensures.rows))
