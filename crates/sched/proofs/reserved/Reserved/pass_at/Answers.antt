use Rattle.std.proofs.Common.{◌≡◌, ℕ, set, sym, ap, ◌∙◌, subst}
use Rattle.sched.specs.declared.tasks.Slot.TheVariants as slot
use Rattle.sched.specs.declared.tasks.Tasks.{Tasks}
use Rattle.sched.specs.House.{Window, put, passed, freed}
use Rattle.sched.specs.Stores.{Reads, place_of, window_of, shut}
use Rattle.sched.proofs.Arrays.{reads-written, reads_kept}
use Rattle.sched.proofs.Lives.{pass-told, shut-told}
use Rattle.sched.proofs.Passing.{open-keeps}
use Rattle.sched.proofs.reserved.Reserved.pass_at.Goals as goal
use Rattle.sched.proofs.reserved.Reserved.pass_at.Goals.{then-not-is_open, else-not-is_open}

pub returns : goal.returns
returns c =
    record {
      windows = λ w windows. reads-written window_of shut c.args.i.index c.pass-window.result (passed c.args.mine (w c.args.i.index)) c.args.i.within
          (ap (λ n. set c.args.self.now.windows n c.pass-window.result) c.index.ensures.value) (told w windows) windows;
      places = λ w p windows slots.
          let P : Tasks → Type 0 = λ t. Reads place_of slot.Free t.slots (put c.args.i.index (freed (passed c.args.mine (w c.args.i.index)) (p c.args.i.index)) p) in
          elim c.if-not-is_open.branch [
            | then-not-is_open v ↦ subst P (sym v.tasks-is) (subst (λ x. Reads place_of slot.Free v.release.new.self.slots (put c.args.i.index (freed x (p c.args.i.index)) p))
                (sym (shut-told c.pass-window.result (sym c.is_open.ensures ∙ v.if-not-is_open.true)) ∙ told w windows) (v.release.ensures.slots p slots))
            | else-not-is_open v ↦ subst P (sym v.tasks-is) (reads_kept place_of slot.Free c.args.i.index (freed (passed c.args.mine (w c.args.i.index)) (p c.args.i.index))
                (ap (λ x. freed x (p c.args.i.index)) (sym (told w windows)) ∙ open-keeps c.pass-window.result (p c.args.i.index) (sym c.is_open.ensures ∙ v.if-not-is_open.false)) slots)
          ];
      awake = elim c.if-not-is_open.branch [
        | then-not-is_open v ↦ ap (λ (t : Tasks). t.awake) v.tasks-is ∙ v.release.ensures.awake
        | else-not-is_open v ↦ ap (λ (t : Tasks). t.awake) v.tasks-is
      ];
    }
  where
    told : (w : ℕ → Window) → Reads window_of shut c.args.self.now.windows w → window_of c.pass-window.result ≡ passed c.args.mine (w c.args.i.index)
    told w windows = pass-told c.window.result c.pass-window.result c.args.mine c.pass-window.ensures ∙ ap (passed c.args.mine) (ap window_of c.window.ensures ∙ windows.at c.args.i.index)
