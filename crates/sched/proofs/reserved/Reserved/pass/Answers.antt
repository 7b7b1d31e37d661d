use Rattle.std.proofs.Common.{◌≡◌, suc, eqb, refl, ◌∙◌}
use Rattle.sched.specs.declared.tasks.Slot.TheVariants as slot
use Rattle.sched.specs.House.{ticked}
use Rattle.sched.specs.Stores.{Reads, place_of, window_of, owner_of, shut}
use Rattle.sched.proofs.Upto.{upto, upto_all, reads-past}
use Rattle.sched.proofs.Passing.{pass-windows, pass-places, pass-windows-past, pass-places-past}
use Rattle.sched.proofs.Owners.{same-owner}
use Rattle.sched.proofs.reserved.Reserved.pass.Goals as goal

pub loop-i-preserved : goal.loop-i-preserved
loop-i-preserved c =
    let n = c.loop-i.i-iterator.next in
    let r = owner_of c.args.whose in
    let here = c.in-Some.ensures.steps.0 in
    let more = c.in-Some.ensures.steps.1 in
    let mine : c.eq.result ≡ eqb r (suc c.in-Some.i.index) = c.eq.ensures ∙ same-owner _ (λ a b. refl) c.args.whose c.in-Some.i in (
      λ h windows.
          rw more (pass-windows h r n c.in-Some.i.index c.eq.result here mine c.pass_at.new.self.windows
          (c.pass_at.ensures.windows (upto n (ticked h r).window h.window) (c.loop-i.invariant.0 h windows))),
      λ h windows slots.
          rw more (pass-places h r n c.in-Some.i.index c.eq.result here mine c.pass_at.new.tasks.slots
          (c.pass_at.ensures.places (upto n (ticked h r).window h.window) (upto n (ticked h r).place h.place) (c.loop-i.invariant.0 h windows) (c.loop-i.invariant.1 h windows slots))),
      c.pass_at.ensures.awake ∙ c.loop-i.invariant.2,
    )

pub returns : goal.returns
unfolding place_of window_of
returns c =
    let e : c.loop-i.i-iterator.next ≡ 64 = c.in-None.ensures.steps.0 in
    record {
      windows = λ h windows.
          let inv : Reads window_of shut c.loop-i.self.windows (upto 64 (ticked h (owner_of c.args.whose)).window h.window) = rw e at (c.loop-i.invariant.0 h windows) in
          upto_all (ticked h (owner_of c.args.whose)).window h.window window_of shut c.loop-i.self.windows 64
          (λ k l. pass-windows-past h (owner_of c.args.whose) k (reads-past window_of shut windows k l)) inv;
      places = λ h windows slots.
          let inv : Reads place_of slot.Free c.loop-i.tasks.slots (upto 64 (ticked h (owner_of c.args.whose)).place h.place) = rw e at (c.loop-i.invariant.1 h windows slots) in
          upto_all (ticked h (owner_of c.args.whose)).place h.place place_of slot.Free c.loop-i.tasks.slots 64
          (λ k l. pass-places-past h (owner_of c.args.whose) k (reads-past place_of slot.Free slots k l) (reads-past window_of shut windows k l)) inv;
      awake = c.loop-i.invariant.2;
    }
