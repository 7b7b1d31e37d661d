-- Only a kept place is another after: a free one and a task's are as they were.
use Rattle.std.proofs.Common.{◌≡◌, set, sym, refl, ap, ◌∙◌}
use Rattle.quantities.specs.declared.promises.Reservation.{Reservation}
use Rattle.sched.specs.declared.tasks.Slot.{Slot}
use Rattle.sched.specs.declared.tasks.Slot.TheVariants as slot
use Rattle.sched.specs.House.{Shut, freed}
use Rattle.sched.specs.Stores.{place_of}
use Rattle.sched.proofs.Arrays.{reads-written, reads_kept}
use Rattle.sched.proofs.tasks.Tasks.release.Goals as goal

pub returns-in-Kept-clause-slots : goal.returns-in-Kept-clause-slots
unfolding place_of freed
returns-in-Kept-clause-slots c f r =
    let i = c.args.i in
    let here = sym (ap (freed Shut) (sym (r.at i.index) ∙ ap place_of (sym c.slot.ensures ∙ c.in-Kept.is))) in
    reads-written place_of slot.Free i.index slot.Free (freed Shut (f i.index)) i.within (ap (λ n. set c.args.self.now.slots n slot.Free) c.index.ensures.value) here r

-- a window that is over frees only a kept place
unkept : (s : Slot) → ((x : Reservation) → s ≡ slot.Kept x → ⊥) → freed Shut (place_of s) ≡ place_of s
unfolding place_of freed
unkept slot.Free n = refl
unkept (slot.Task p) n = refl
unkept (slot.Kept x) n = absurd (n x refl)

pub returns-in_default : goal.returns-in_default
returns-in_default c = record {
  slots = λ f r.
      let i = c.args.i.index in
      let here = ap place_of c.slot.ensures ∙ r.at i in
      reads_kept place_of slot.Free i (freed Shut (f i)) (sym (ap (freed Shut) here) ∙ (unkept _ c.in_default.not-Kept ∙ here)) r;
  awake = refl;
}
