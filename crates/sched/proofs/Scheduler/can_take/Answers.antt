-- Each test of the code is one of the rules.
use Rattle.std.proofs.Common.{◌≡◌, Bool, true, false, not, eqb, is_some, Some, None, Option, sym, refl, ap, ◌∙◌, arith}
use Rattle.std.proofs.lemmas.Bool.{false≢true, not-false, ne_eqb}
use Rattle.quantities.specs.Ids.{TaskId}
use Rattle.sched.specs.House.{is_task}
use Rattle.sched.specs.Stores.{owner_of, place_of}
use Rattle.sched.proofs.Told.{holds-locked, is-task}
use Rattle.sched.proofs.model.Held.{can-if-free}
use Rattle.sched.proofs.Scheduler.can_take.Goals as goal
use Rattle.sched.proofs.Scheduler.can_take.Goals.{then-is_task, else-is_task, then-not-is_waiting, else-not-is_waiting}

-- nobody owns it, as the code and as the rules ask
unowned : (o : Option TaskId) (b : Bool) → is_some o ≡ not b → b ≡ eqb (owner_of o) 0
unfolding owner_of
unowned None true e = refl
unowned None false e = absurd (false≢true e)
unowned (Some i) true e = absurd (false≢true (sym e))
unowned (Some i) false e = sym (ne_eqb _ 0 (λ z. omega (arith, z)))

not-true : (b : Bool) → not b ≡ true → b ≡ false
not-true true e = absurd (false≢true e)
not-true false e = refl

pub returns-then-is_awake-clause-value : goal.returns-then-is_awake-clause-value
returns-then-is_awake-clause-value c h k =
    elim c.if-not-is_waiting.branch [
      | else-not-is_waiting w ↦ cc
      | then-not-is_waiting w ↦ elim c.if-is_task.branch [
        | else-is_task v ↦ cc
        | then-is_task v ↦
            let i = c.args.i in
            let l = holds-locked c.args.self.now h k in
            let there = ap (λ x. is_task (place_of x)) (sym c.slot.ensures) ∙ (sym c.is_task.ensures ∙ v.if-is_task.true) in
            let runs = not-true _ (sym v.value-is ∙ w.if-not-is_waiting.true) in
            unowned c.owner.result c.is_none.result c.is_none.ensures ∙ (ap (λ n. eqb n 0) (c.owner.ensures h l) ∙ sym (can-if-free h i.index c.args.m.index
            (is-task c.args.self.now h k i.index i.within there)
            (not-false _ (sym (v.is_waiting.ensures h l) ∙ runs))
            (sym (k.stores.awake.at i.index) ∙ (sym w.is_awake.ensures ∙ (sym w.value-is ∙ c.if-is_awake.true)))))
      ]
    ]

pub returns-then-is_awake-clause-ready : goal.returns-then-is_awake-clause-ready
returns-then-is_awake-clause-ready c e h k = sym (returns-then-is_awake-clause-value c h k) ∙ e
