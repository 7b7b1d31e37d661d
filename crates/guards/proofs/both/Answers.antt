use Rattle.std.proofs.Common.{refl, ◌∙◌, subst, rules}
use Rattle.sched.specs.declared.Scheduler.{Scheduler}
use Rattle.sched.specs.House.{House}
use Rattle.sched.specs.Stores.{Holds}
use Rattle.guards.specs.Sections.{Both}
use Rattle.guards.proofs.Learned.{index, took-at, tells-at, gave_at, on-top, five-tells, six-tells, both-free}
use Rattle.guards.proofs.both.Goals as goal

pub returns-then-not-lock-clause-value : goal.returns-then-not-lock-clause-value
returns-then-not-lock-clause-value c =
    let five = (rw c.unwrap-five.ensures at c.try_from.ensures).0 in
    five-tells c.args.i.index (tells-at c.new-guard.ensures.same (index c.new-guard.ensures.ids.0) c.new-guard.ensures.ids.1 five c.lock.ensures.value) c.if-not-lock.true

pub returns-clause-value : goal.returns-clause-value
returns-clause-value c =
    let five = (rw c.unwrap-five.ensures at c.try_from.ensures).0 in
    let six = (rw c.unwrap-six.ensures at c.try_from-2.ensures).0 in
    let first = c.lock.ensures.taken c.if-not-lock.false in
    let task₀ = c.new-guard.ensures.ids.0 in
    let task₁ = c.lock.ensures.ids ∙ task₀ in
    six-tells (tells-at c.new-guard.ensures.same (index task₀) c.new-guard.ensures.ids.1 five c.lock.ensures.value) c.if-not-lock.false
    (took-at c.new-guard.ensures.same (index task₀) five first.1)
    (tells-at refl (index task₁) (on-top first.0 five c.new-guard.ensures.ids.1) six c.lock-2.ensures.value)

pub returns-clause-given : goal.returns-clause-given
returns-clause-given c done =
    let s = c.args.scheduler.now in
    let g₁ = c.lock.new.self in
    let g₂ = c.lock-2.new.self in
    let t = c.drop-guard-2.new.self.0 in
    let i = c.args.i.index in
    let five = (rw c.unwrap-five.ensures at c.try_from.ensures).0 in
    let six = (rw c.unwrap-six.ensures at c.try_from-2.ensures).0 in
    let first = c.lock.ensures.taken c.if-not-lock.false in
    let second = c.lock-2.ensures.taken done in
    let task₀ = c.new-guard.ensures.ids.0 in
    let task₁ = c.lock.ensures.ids ∙ task₀ in
    let task₂ = c.lock-2.ensures.ids ∙ task₁ in
    let locks = on-top second.0 six (on-top first.0 five c.new-guard.ensures.ids.1) in
    subst (λ (x : Scheduler). (h : House) → Holds s h → Both h i x) (search rules) (λ h k. both-free s g₁.scheduler.now g₂.scheduler.now i
    (took-at c.new-guard.ensures.same (index task₀) five first.1)
    (took-at refl (index task₁) six second.1)
    h k t (gave_at (index task₂) locks c.drop-guard-2.ensures.given))
