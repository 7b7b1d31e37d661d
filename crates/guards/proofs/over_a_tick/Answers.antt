use Rattle.std.proofs.Common.{[], ◌∷◌, sym, refl, ap, ◌∙◌, subst, rules}
use Rattle.sched.specs.declared.Scheduler.{Scheduler}
use Rattle.sched.specs.House.{House}
use Rattle.sched.specs.Stores.{Holds}
use Rattle.sched.specs.Held.{Ticked, locks_of}
use Rattle.guards.specs.Sections.{OverTick}
use Rattle.guards.proofs.Learned.{index, took-at, gave_at, on-top, head-is, tail-is, over-tick}
use Rattle.guards.proofs.over_a_tick.Goals as goal

pub returns : goal.returns
returns c =
    let s = c.args.scheduler.now in
    let g₁ = c.lock.new.self in
    let g₂ = c.lock-else-not-lock.new.self in
    let g₃ = c.unlock.new.self in
    let g₄ = c.pick.new.self in
    let t = c.drop-held-2.new.self.0 in
    let i = c.args.i.index in
    let whose = c.pick.result.0 in
    let runs = c.pick.result.1 in
    let five = (rw c.unwrap-outer.ensures at c.try_from.ensures).0 in
    let six = (rw c.unwrap-inner.ensures at c.try_from-2.ensures).0 in
    let first = c.lock.ensures.taken c.if-not-lock.false in
    let second = c.lock-else-not-lock.ensures.taken c.if-not-lock-2.false in
    let third = c.in_ok-unlock.ensures.given in
    let task₀ = c.new-held.ensures.ids.0 in
    let task₁ = c.lock.ensures.ids ∙ task₀ in
    let task₂ = c.lock-else-not-lock.ensures.ids ∙ task₁ in
    let task₃ = c.unlock.ensures.ids ∙ task₂ in
    let task₄ = c.pick.ensures.ids.0 ∙ task₃ in
    let locks₂ = on-top second.0 six (on-top first.0 five c.new-held.ensures.ids.1) in
    let both = sym third.0 ∙ locks₂ in
    subst (λ (x : Scheduler). (h : House) → Holds s h → OverTick h i whose runs x) (search rules) (λ h k. over-tick s g₁.scheduler.now g₂.scheduler.now i
    (took-at c.new-held.ensures.same (index task₀) five first.1)
    (took-at refl (index task₁) six second.1)
    h k g₃.scheduler.now g₄.scheduler.now t whose runs
    (gave_at (index task₂) (ap (λ n. n ∷ []) (head-is both)) third.1)
    (subst (λ n. Ticked g₃.scheduler.now g₄.scheduler.now n whose runs) (index task₃) c.pick.ensures.ticked)
    (gave_at (index task₄) (ap locks_of c.pick.ensures.ids.1 ∙ tail-is both) c.drop-held-2.ensures.given))
