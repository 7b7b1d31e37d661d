-- The least far goes on, if the tick was a fair task's; then positions are kept low.
use Rattle.std.proofs.Common.{◌≡◌, ℕ, suc, Bool, true, false, ltb, List, get_or, sym, ap, ◌∙◌, subst}
use Rattle.std.proofs.lemmas.Bool.{ltb-true}
use Rattle.sched.specs.declared.tasks.Slot.{Slot}
use Rattle.sched.specs.declared.tasks.Slot.TheVariants as slot
use Rattle.sched.specs.House.{Place, opened, ticked, weight_of}
use Rattle.sched.specs.Stores.{Reads, owner_of, place_of}
use Rattle.sched.specs.Begun.{Passing}
use Rattle.sched.proofs.positions.Passing.{passing-still, still-none, still-light}
use Rattle.sched.proofs.fair.Fair.pass.Goals as goal
use Rattle.sched.proofs.fair.Fair.pass.Goals.{in-Some+then-is_fair, in-Some+else-is_fair, in_default}

-- whether the task is fair, as the places have it
told-fair : (slots : List Slot) (place : ℕ → Place) (i : ℕ) (s : Slot) (fair b : Bool) → Reads place_of slot.Free slots place → s ≡ get_or slots i slot.Free → fair ≡ ltb 0 (weight_of (place_of s)) → fair ≡ b → ltb 0 (weight_of (place i)) ≡ b
told-fair slots place i s fair b reads is told e =
    ap (λ p. ltb 0 (weight_of p)) (sym (reads.at i)) ∙ ap (λ x. ltb 0 (weight_of (place_of x))) (sym is) ∙ sym told ∙ e

pub returns : goal.returns
unfolding owner_of
returns c h comes slots least begun =
    c.keep_low.ensures (ticked (opened h) (owner_of c.args.whose))
    (elim c.match-whose.branch [
      | in-Some+then-is_fair w ↦
          let owner : owner_of c.args.whose ≡ suc w.in-Some.i.index = ap owner_of w.in-Some.is in
          let fair = told-fair c.args.tasks.now.slots h.place w.in-Some.i.index w.slot.result w.is_fair.result true slots w.slot.ensures w.is_fair.ensures w.if-is_fair.true in
          let after = w.go_on.ensures h comes (least w.in-Some.i.index owner (ltb-true 0 (weight_of (h.place w.in-Some.i.index)) fair)) begun in
          subst (λ s. Passing s (ticked (opened h) (owner_of c.args.whose))) (sym w.self-is) (subst (λ r. Passing w.go_on.new.self (ticked (opened h) r)) (sym owner) after)
      | in-Some+else-is_fair w ↦
          let owner : owner_of c.args.whose ≡ suc w.in-Some.i.index = ap owner_of w.in-Some.is in
          let light = told-fair c.args.tasks.now.slots h.place w.in-Some.i.index w.slot.result w.is_fair.result false slots w.slot.ensures w.is_fair.ensures w.if-is_fair.false in
          let after = passing-still c.args.self.now (suc w.in-Some.i.index) (λ j. still-light (opened h) w.in-Some.i.index j light) begun in
          subst (λ s. Passing s (ticked (opened h) (owner_of c.args.whose))) (sym w.self-is) (subst (λ r. Passing c.args.self.now (ticked (opened h) r)) (sym owner) after)
      | in_default w ↦
          let owner : owner_of c.args.whose ≡ 0 = ap owner_of w.in_default.is in
          let after = passing-still c.args.self.now 0 (still-none (opened h)) begun in
          subst (λ s. Passing s (ticked (opened h) (owner_of c.args.whose))) (sym w.self-is) (subst (λ r. Passing c.args.self.now (ticked (opened h) r)) (sym owner) after)
    ])
