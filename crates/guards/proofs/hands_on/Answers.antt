use Rattle.std.proofs.Common.{ap, ◌∙◌, subst, rules}
use Rattle.sched.specs.declared.Scheduler.{Scheduler}
use Rattle.sched.specs.declared.Call.TheVariants.{Lock}
use Rattle.sched.specs.House.{House}
use Rattle.sched.specs.Stores.{Holds}
use Rattle.sched.specs.Held.{Let, locks_of}
use Rattle.sched.proofs.Told.{at_both}
use Rattle.guards.specs.Sections.{HandedOn}
use Rattle.guards.proofs.Learned.{index, took-at, gave_at, on-top, goes_to}
use Rattle.guards.proofs.hands_on.Goals as goal

pub returns : goal.returns
returns c done =
    let s = c.args.scheduler.now in
    let g₁ = c.lock.new.self in
    let g₂ = c.call.new.self in
    let t = c.drop-guard-2.new.self.0 in
    let i = c.args.i.index in
    let j = c.args.j.index in
    let a = c.in-Some.told in
    let five = (rw c.unwrap-five.ensures at c.try_from.ensures).0 in
    let first = c.lock.ensures.taken c.if-not-lock.false in
    let task₀ = c.new-guard.ensures.ids.0 in
    let task₁ = c.lock.ensures.ids ∙ task₀ in
    let task₂ = c.call.ensures.ids.0 ∙ task₁ in
    let locks = ap locks_of c.call.ensures.ids.1 ∙ on-top first.0 five c.new-guard.ensures.ids.1 in
    subst (λ (x : Scheduler). (h : House) → Holds s h → HandedOn h i j x) (search rules) (goes_to s g₁.scheduler.now g₂.scheduler.now t i j a
    (took-at c.new-guard.ensures.same (index task₀) five first.1)
    (at_both (λ x y. Let g₁.scheduler.now g₂.scheduler.now x (Lock y 5) a) (index task₁) c.into.ensures.0 c.in-Some.ensures.answered)
    (c.is_done.ensures.done done)
    (gave_at (index task₂) locks c.drop-guard-2.ensures.given))
