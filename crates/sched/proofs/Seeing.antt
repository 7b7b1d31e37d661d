-- Who wants, from what is kept: a task whose runner is awake, since a runner doesn't wait.
use Rattle.std.proofs.Common.{◌≡◌, ℕ, ◌<◌, ◌≤◌, Bool, true, false, ◌&&◌, eqb, get_or, sym, refl, ap, ◌∙◌}
use Rattle.std.proofs.lemmas.Bool.{and_left, eq-eqb}
use Rattle.sched.specs.declared.Scheduler.{Scheduler}
use Rattle.sched.specs.declared.tasks.Tasks.{Tasks}
use Rattle.sched.specs.declared.tasks.Slot.TheVariants as slot
use Rattle.sched.specs.declared.wants.Wants as code-wants
use Rattle.sched.specs.declared.locks.Locks.{Locks}
use Rattle.sched.specs.House.{House, is_task, wants, runner, opened}
use Rattle.sched.specs.Promise.{Comes}
use Rattle.sched.specs.Stores.{Holds, place_of, place_at}
use Rattle.sched.specs.Midtick.{WantsOf, Seen}
use Rattle.sched.proofs.Arrays.{reads-like}
use Rattle.sched.proofs.Told.{holds-locked}
use Rattle.sched.proofs.Upto.{reads-past}
use Rattle.sched.proofs.model.Rings.{runner-is-free}
use Rattle.sched.proofs.model.Ticks.{wants-opened}

and-true : (a b c : Bool) → a ≡ true → c ≡ true → b ≡ (a && b && c)
and-true a true c e f = rw (e, f) refl
and-true a false c e f = rw e refl

module _ (h : House) where
  task-wants : Comes h → (i : ℕ) → i < 64 → is_task (h.place i) ≡ true → h.awake (runner 64 h i) ≡ wants h i
  task-wants r i l t = and-true (is_task (h.place i)) (h.awake (runner 64 h i)) (eqb (h.waits (runner 64 h i)) 0) t (eq-eqb (h.waits (runner 64 h i)) 0 (runner-is-free h r i l t).0)

  other-wants : (i : ℕ) → is_task (h.place i) ≡ false → wants h i ≡ false
  other-wants i e = and_left (is_task (h.place i) && h.awake (runner 64 h i)) (eqb (h.waits (runner 64 h i)) 0) (and_left (is_task (h.place i)) (h.awake (runner 64 h i)) e)

  module _ (tasks : Tasks) (locks : Locks) (seen : Seen tasks locks h) where
    pub seen-wants : (n i r : ℕ) (b : Bool) → i < 64 → i ≡ n → is_task (place_at tasks.slots i) ≡ true → r ≡ runner 64 h i → b ≡ get_or tasks.awake r false → b ≡ wants h n
    seen-wants n i r b l e task run awake =
        awake ∙ seen.awake.at r ∙ ap h.awake run ∙ task-wants seen.locks.comes i l (ap is_task (sym (seen.slots.at i)) ∙ task) ∙ ap (wants h) e

    -- nobody is past the places
    pub past-wants : (n : ℕ) → 64 ≤ n → wants h n ≡ false
    unfolding place_of is_task
    past-wants n l = other-wants n (ap is_task (reads-past place_of slot.Free seen.slots n l))

  -- the same want when windows have opened
  pub wants-still : (w : code-wants.Wants) → WantsOf w h → WantsOf w (opened h)
  wants-still w = reads-like (λ (b : Bool). b) false (λ i. sym (wants-opened h i))

-- what a scheduler keeps of tasks and locks
pub holds-seen : (s : Scheduler) (h : House) → Holds s h → Seen s.tasks s.locks h
holds-seen s h holds = record { slots = holds.stores.slots; awake = holds.stores.awake; locks = holds-locked s h holds }
