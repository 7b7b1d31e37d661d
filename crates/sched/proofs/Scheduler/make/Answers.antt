-- Free places and shares are those of the house; then each part stores what it keeps of a new task.
use Rattle.std.proofs.Common.{◌≡◌, sym, refl, ap, ◌∙◌, arith}
use Rattle.std.proofs.lemmas.Bool.{lt-ltb, le-ltb}
use Rattle.sched.specs.declared.Answer.TheVariants.{Id}
use Rattle.sched.specs.declared.refusal.Refusal.TheVariants.{BadNumber, NoPlace, NoShare}
use Rattle.sched.specs.House.{House, out, is_nobody, share_of_kind, good, new_at}
use Rattle.sched.specs.Stores.{kind_of, Holds}
use Rattle.sched.proofs.Bounded.{first-is}
use Rattle.sched.proofs.Told.{turned-away, refused-for, went-through, ok_or-err, free-told, new-place-told, shares-told}
use Rattle.sched.proofs.Changes.{stores-made}
use Rattle.sched.proofs.model.CallWays.{made}
use Rattle.sched.proofs.model.Outcomes.{make-bad, make-full, make-share, make-done}
use Rattle.sched.proofs.model.Places.{is-nobody}
use Rattle.sched.proofs.Scheduler.make.Goals as goal

pub returns-in_err-promise : goal.returns-in_err-promise
returns-in_err-promise c =
    turned-away BadNumber c.from_residual.ensures.1 refl (λ h k. make-bad h c.args.kind c.in_err-promise.ensures)

pub returns-in_err-i : goal.returns-in_err-i
returns-in_err-i c =
    let promised = c.in_ok-promise.ensures in
    let none = ok_or-err _ c.in_err-i.ensures.value in
    let full = rw none.0 at c.free_place.ensures in
    turned-away NoPlace c.from_residual-in_err-i.ensures.1 none.1 (λ h k. make-full h c.args.kind promised.1 (sym (free-told c.args.self.now h k) ∙ full))

pub returns-then-shares-share-gt-MOST_SHARES : goal.returns-then-shares-share-gt-MOST_SHARES
returns-then-shares-share-gt-MOST_SHARES c =
    let s = c.args.self.now in
    let promised = c.in_ok-promise.ensures in
    let place = rw c.in_ok-i.ensures.ok_part at c.free_place.ensures in
    let share = c.share.ensures.value ∙ ap share_of_kind promised.0 in
    refused-for NoShare (λ h k.
    make-share h c.args.kind promised.1 (sym (free-told s h k) ∙ place.0) (lt-ltb 7560 _ (omega (arith, c.if-shares-share-gt-MOST_SHARES.true, c.shares.ensures.value, shares-told s h k, share))))

pub returns : goal.returns
returns c =
    let s = c.args.self.now in
    let p = c.in_ok-promise.promise in
    let promised = c.in_ok-promise.ensures in
    let i = c.in_ok-i.i in
    let place = rw c.in_ok-i.ensures.ok_part at c.free_place.ensures in
    let at : (h : House) → Holds s h → new_at h ≡ i.index = λ h k. sym (place.1 ∙ new-place-told s h k) in
    rw (← promised.0) (went-through i (made i.index (kind_of p))
    (λ h k.
    make-done h (kind_of p) (ap good promised.0 ∙ promised.1) (sym (free-told s h k) ∙ place.0) (le-ltb 7560 _ (omega (arith, c.if-shares-share-gt-MOST_SHARES.false, c.shares.ensures.value, shares-told s h k, c.share.ensures.value)))
    ∙ ap (λ n. out (Id n) (made n (kind_of p) h)) (at h k))
    (λ h k.
    let none = is-nobody (h.place i.index) (ap (λ n. is_nobody (h.place n)) (sym (at h k)) ∙ first-is _ 64 (sym (free-told s h k) ∙ place.0)) in
    stores-made s h k.stores k.comes c.put.new.self c.made.new.self c.made-2.new.self c.made-3.new.self i.index p i.within none c.put.ensures.slots c.put.ensures.awake c.made.ensures c.made-2.ensures (c.made-3.ensures h k.stores.fair)))
