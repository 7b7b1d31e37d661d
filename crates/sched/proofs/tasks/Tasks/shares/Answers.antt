-- One term more in each turn.
use Rattle.std.proofs.Common.{◌≡◌, get_or, refl, ap, ◌∙◌, arith, rules}
use Rattle.std.proofs.lemmas.List.{get_or_default}
use Rattle.sched.specs.declared.tasks.Slot.TheVariants as slot
use Rattle.sched.specs.House.{sum, share_of}
use Rattle.sched.specs.Stores.{place_of}
use Rattle.sched.proofs.Sums.{sum_more}
use Rattle.sched.proofs.tasks.Tasks.shares.Goals as goal

pub loop-slot-init : goal.loop-slot-init
unfolding sum
loop-slot-init c = (refl, omega arith)

pub loop-slot-preserved : goal.loop-slot-preserved
loop-slot-preserved c =
    let xs = c.args.self.now.slots in
    let same : get_or xs c.loop-slot.slot-index c.slot-item.result ≡ get_or xs c.loop-slot.slot-index slot.Free = search (rules, get_or_default) in
    let here : c.share-sum.result ≡ share_of (place_of (get_or xs c.loop-slot.slot-index slot.Free)) = c.share-sum.ensures.value ∙ ap (λ s. share_of (place_of s)) same in
    (rw sum_more (omega (arith, c.loop-slot.invariant.0)), omega (arith, c.loop-slot.invariant.1))
