-- What is stored after each change that a call makes.
use Rattle.std.proofs.Common.{◌≡◌, ℕ, suc, ◌<◌, Bool, false, cond, List, [], ◌∷◌, ◌++◌, get_or, set, Some, None, sym, refl, ap, ◌∙◌, subst, arith}
use Rattle.std.proofs.lemmas.Bool.{cond_both}
use Rattle.quantities.specs.Ids.{TaskId}
use Rattle.queues.specs.Members.{Free}
use Rattle.queues.specs.Rings as queue
use Rattle.sched.specs.declared.Scheduler.{Scheduler}
use Rattle.sched.specs.declared.promise.Promise.{Promise}
use Rattle.sched.specs.declared.tasks.Tasks.{Tasks}
use Rattle.sched.specs.declared.tasks.Slot.{Slot}
use Rattle.sched.specs.declared.tasks.Slot.TheVariants as slot
use Rattle.sched.specs.declared.locks.Locks.{Locks}
use Rattle.sched.specs.declared.reserved.Reserved.{Reserved}
use Rattle.sched.specs.declared.fixed.Fixed.{Fixed}
use Rattle.sched.specs.declared.fair.Fair.{Fair}
use Rattle.sched.specs.House.{House, Place, Nobody, A, Kept, Window, Shut, Open, put, makes, first_of, rest_of, leaves, without, is_task, is_reserved, is_fixed, quota_of, period_of, weight_of}
use Rattle.sched.specs.Promise.{Comes, times}
use Rattle.sched.specs.Stores.{Reads, place_of, kind_of, task_place, owner_of, window_of, shut, TurnOf, FairlyOf, made_at, Stores}
use Rattle.sched.proofs.Arrays.{reads-written, reads_same}
use Rattle.sched.proofs.Puts.{put_both}
use Rattle.sched.proofs.positions.Standing.{fairly-placed}
use Rattle.sched.proofs.model.CallWays.{made, ended, takes, queues}
use Rattle.sched.proofs.model.Outcomes.{gives}
use Rattle.sched.proofs.model.Places.{leaves-weightless}
use Rattle.sched.proofs.model.Turn.{comes-once}

-- what a task leaves is no fixed task
leaves-unfixed : (w : Window) (p : Place) → is_fixed (leaves w p) ≡ false
unfolding leaves is_fixed
leaves-unfixed Shut p = refl
leaves-unfixed (Open e g b) p = cond_both (is_reserved p) (Kept (quota_of p) (period_of p)) Nobody (λ x. is_fixed x ≡ false) (λ _. refl) (λ _. refl)

abbrev pub with_tasks : Tasks → Scheduler → Scheduler
with_tasks t s = record { tasks = t; locks = s.locks; reserved = s.reserved; fixed = s.fixed; fair = s.fair }

abbrev pub with_locks : Locks → Scheduler → Scheduler
with_locks l s = record { tasks = s.tasks; locks = l; reserved = s.reserved; fixed = s.fixed; fair = s.fair }

module _ (s : Scheduler) (h : House) (k : Stores s h) where
  -- i is awake from now on, or asleep
  pub stores-awake : (t : Tasks) (i : ℕ) (b : Bool) → i < 64 → t.slots ≡ s.tasks.slots → t.awake ≡ set s.tasks.awake i b →
      Stores (with_tasks t s) (makes h h.place (put i b h.awake) h.waits h.owner h.row h.window h.turn)
  stores-awake t i b l e f = record {
    slots = reads_same place_of slot.Free e k.slots;
    awake = reads-written (λ (x : Bool). x) false i b b l f refl k.awake;
    owners = k.owners;
    rows = k.rows;
    windows = k.windows;
    turn = k.turn;
    fair = k.fair;
  }

  -- locks with other owners or other rows
  pub stores-locks : (l : Locks) (w o : ℕ → ℕ) (r : ℕ → List ℕ) → Reads owner_of None l.owners o → queue.Holds l.waiters r →
      Stores (with_locks l s) (makes h h.place h.awake w o r h.window h.turn)
  stores-locks l w o r owns stand = record {
    slots = k.slots;
    awake = k.awake;
    owners = owns;
    rows = stand;
    windows = k.windows;
    turn = k.turn;
    fair = k.fair;
  }

  pub stores-takes : (l : Locks) (i : TaskId) (m : ℕ) → m < 64 → l.owners ≡ set s.locks.owners m (Some i) → l.waiters ≡ s.locks.waiters → Stores (with_locks l s) (takes i.index m h)
  unfolding owner_of
  stores-takes l i m b e f =
      stores-locks l h.waits (put m (suc i.index) h.owner) h.row (reads-written owner_of None m (Some i) (suc i.index) b e refl k.owners) (subst (λ q. queue.Holds q h.row) (sym f) k.rows)

  pub stores-queues : (l : Locks) (i m : ℕ) → Free h.row i → l.owners ≡ s.locks.owners → ((f : ℕ → List ℕ) → queue.Holds s.locks.waiters f → Free f i → queue.Holds l.waiters (put m (f m ++ (i ∷ [])) f)) → Stores (with_locks l s) (queues i m h)
  stores-queues l i m free e stand =
      stores-locks l (put i (suc m) h.waits) h.owner (put m (h.row m ++ (i ∷ [])) h.row) (reads_same owner_of None e k.owners) (stand h.row k.rows free)

  pub stores-gives : (l : Locks) (m : ℕ) → ((f : ℕ → List ℕ) (o : ℕ → ℕ) → queue.Holds s.locks.waiters f → Reads owner_of None s.locks.owners o → Reads owner_of None l.owners (put m (first_of (f m)) o)) →
      ((f : ℕ → List ℕ) → queue.Holds s.locks.waiters f → queue.Holds l.waiters (put m (rest_of (f m)) f)) → Stores (with_locks l s) (gives m h)
  stores-gives l m owns stand =
      stores-locks l _ (put m (first_of (h.row m)) h.owner) (put m (rest_of (h.row m)) h.row) (owns h.row h.owner k.rows k.owners) (stand h.row k.rows)

  -- a new task at i, in all that is kept of it
  pub stores-made : (c : Comes h) (t : Tasks) (r : Reserved) (f : Fixed) (g : Fair) (i : ℕ) (p : Promise) → i < 64 → h.place i ≡ Nobody →
      t.slots ≡ set s.tasks.slots i (slot.Task p) → t.awake ≡ set s.tasks.awake i false → r.windows ≡ set s.reserved.windows i shut →
      ((place : ℕ → Place) (turn : List ℕ) → TurnOf s.fixed place turn → times i turn ≡ 0 → TurnOf f (put i (task_place p) place) (turn ++ (i ∷ []))) →
      FairlyOf g (made_at i p h) → Stores (record { tasks = t; locks = s.locks; reserved = r; fixed = f; fair = g }) (made i (kind_of p) h)
  unfolding place_of window_of is_task
  stores-made c t r f g i p l none slots awake windows turn fair = record {
    slots = reads-written place_of slot.Free i (slot.Task p) (A (kind_of p)) l slots refl k.slots;
    awake = reads-written (λ (x : Bool). x) false i false false l awake refl k.awake;
    owners = k.owners;
    rows = k.rows;
    windows = reads-written window_of shut i shut Shut l windows refl k.windows;
    turn = turn h.place h.turn k.turn (comes-once c i ∙ ap (λ x. cond (is_task x) 1 0) none);
    fair = fair;
  }

  -- i has ended, and left x at its place
  pub stores-ended : (t : Tasks) (f : Fixed) (i : ℕ) (x y : Slot) → i < 64 → t.slots ≡ set s.tasks.slots i x → t.awake ≡ set s.tasks.awake i false →
      y ≡ get_or s.tasks.slots i slot.Free → place_of x ≡ leaves (window_of (get_or s.reserved.windows i shut)) (place_of y) →
      ((place : ℕ → Place) (turn : List ℕ) (p : Place) → TurnOf s.fixed place turn → is_fixed p ≡ false → TurnOf f (put i p place) (without i turn)) →
      Stores (record { tasks = t; locks = s.locks; reserved = s.reserved; fixed = f; fair = s.fair }) (ended i h)
  stores-ended t f i x y l slots awake was left turn =
      let q = leaves (h.window i) (h.place i) in
      let e : place_of x ≡ q = left ∙ (ap (λ w. leaves w (place_of y)) (k.windows.at i) ∙ ap (leaves (h.window i)) (ap place_of was ∙ k.slots.at i)) in
      record {
        slots = reads-written place_of slot.Free i x q l slots e k.slots;
        awake = reads-written (λ (b : Bool). b) false i false false l awake refl k.awake;
        owners = k.owners;
        rows = k.rows;
        windows = k.windows;
        turn = turn h.place h.turn q k.turn (leaves-unfixed (h.window i) (h.place i));
        fair = fairly-placed (put i q h.place) (λ j. put_both i q h.place j (λ p. 0 < weight_of p → weight_of p ≡ weight_of (h.place j)) (λ _ heavy. absurd (omega (arith, heavy, leaves-weightless (h.window i) (h.place i)))) (λ _ _. refl)) k.fair;
      }
