-- What each call comes to, one lemma for each outcome, by the tests in the order of the rules.
use Rattle.std.proofs.Common.{◌≡◌, ℕ, suc, ◌+◌, ◌-◌, true, false, cond, not, ◌||◌, eqb, ltb, leb, refl}
use Rattle.sched.specs.declared.Kind.{Kind}
use Rattle.sched.specs.declared.Call.TheVariants.{Make, End, Wake, Sleep, Lock, Unlock}
use Rattle.sched.specs.declared.Answer.TheVariants.{Done, Id}
use Rattle.sched.specs.House.{House, out, no, put, makes, new_at, sum, some', is_nobody, share_of, share_of_kind, good, is_a, holds, first_of, rest_of, runner, calls}
use Rattle.sched.proofs.model.CallWays.{made, ended, woken, asleep, takes, queues}

-- m is given back, and goes to the first in its row
abbrev pub gives : ℕ → House → House
gives m h =
    makes h h.place h.awake (cond (eqb (first_of (h.row m)) 0) h.waits (put (first_of (h.row m) - 1) 0 h.waits)) (put m (first_of (h.row m)) h.owner) (put m (rest_of (h.row m)) h.row) h.window h.turn

module _ (h : House) (k : Kind) where
  pub make-bad : good k ≡ false → calls (Make k) h ≡ no 1 h
  unfolding calls
  make-bad g = rw g refl

  pub make-full : good k ≡ true → some' 64 (λ (i : ℕ). is_nobody (h.place i)) ≡ false → calls (Make k) h ≡ no 2 h
  unfolding calls
  make-full g s = rw (g, s) refl

  pub make-share : good k ≡ true → some' 64 (λ (i : ℕ). is_nobody (h.place i)) ≡ true → ltb 7560 (sum 64 (λ i. share_of (h.place i)) + share_of_kind k) ≡ true → calls (Make k) h ≡ no 3 h
  unfolding calls
  make-share g s t = rw (g, s, t) refl

  pub make-done : good k ≡ true → some' 64 (λ (i : ℕ). is_nobody (h.place i)) ≡ true → ltb 7560 (sum 64 (λ i. share_of (h.place i)) + share_of_kind k) ≡ false → calls (Make k) h ≡ out (Id (new_at h)) (made (new_at h) k h)
  unfolding calls
  make-done g s t = rw (g, s, t) refl

module _ (h : House) (i : ℕ) where
  pub end_none : is_a h i ≡ false → calls (End i) h ≡ no 4 h
  unfolding calls
  end_none a = rw a refl

  pub end-waits : is_a h i ≡ true → not (eqb (h.waits i) 0) ≡ true → calls (End i) h ≡ no 9 h
  unfolding calls
  end-waits a w = rw (a, w) refl

  pub end-owns : is_a h i ≡ true → not (eqb (h.waits i) 0) ≡ false → holds h i ≡ true → calls (End i) h ≡ no 6 h
  unfolding calls
  end-owns a w o = rw (a, w, o) refl

  pub end-done : is_a h i ≡ true → not (eqb (h.waits i) 0) ≡ false → holds h i ≡ false → calls (End i) h ≡ out Done (ended i h)
  unfolding calls
  end-done a w o = rw (a, w, o) refl

  pub wake-none : is_a h i ≡ false → calls (Wake i) h ≡ no 4 h
  unfolding calls
  wake-none a = rw a refl

  pub wake-done : is_a h i ≡ true → calls (Wake i) h ≡ out Done (woken i h)
  unfolding calls
  wake-done a = rw a refl

  pub sleep-none : is_a h i ≡ false → calls (Sleep i) h ≡ no 4 h
  unfolding calls
  sleep-none a = rw a refl

  pub sleep-waits : is_a h i ≡ true → not (eqb (h.waits i) 0) ≡ true → calls (Sleep i) h ≡ no 9 h
  unfolding calls
  sleep-waits a w = rw (a, w) refl

  pub sleep-done : is_a h i ≡ true → not (eqb (h.waits i) 0) ≡ false → calls (Sleep i) h ≡ out Done (asleep i h)
  unfolding calls
  sleep-done a w = rw (a, w) refl

module _ (h : House) (i m : ℕ) where
  pub lock-none : is_a h i ≡ false → calls (Lock i m) h ≡ no 4 h
  unfolding calls
  lock-none a = rw a refl

  pub lock-bad : is_a h i ≡ true → leb 64 m ≡ true → calls (Lock i m) h ≡ no 1 h
  unfolding calls
  lock-bad a l = rw (a, l) refl

  pub lock-waits : is_a h i ≡ true → leb 64 m ≡ false → (not (eqb (h.waits i) 0) || not (h.awake i)) ≡ true → calls (Lock i m) h ≡ no 9 h
  unfolding calls
  lock-waits a l w = rw (a, l, w) refl

  pub lock-takes : is_a h i ≡ true → leb 64 m ≡ false → (not (eqb (h.waits i) 0) || not (h.awake i)) ≡ false → eqb (h.owner m) 0 ≡ true → calls (Lock i m) h ≡ out Done (takes i m h)
  unfolding calls
  lock-takes a l w o = rw (a, l, w, o) refl

  pub lock-ring : is_a h i ≡ true → leb 64 m ≡ false → (not (eqb (h.waits i) 0) || not (h.awake i)) ≡ false → eqb (h.owner m) 0 ≡ false → eqb (runner 64 h (h.owner m - 1)) i ≡ true → calls (Lock i m) h ≡ no 5 h
  unfolding calls
  lock-ring a l w o r = rw (a, l, w, o, r) refl

  pub lock-queues : is_a h i ≡ true → leb 64 m ≡ false → (not (eqb (h.waits i) 0) || not (h.awake i)) ≡ false → eqb (h.owner m) 0 ≡ false → eqb (runner 64 h (h.owner m - 1)) i ≡ false → calls (Lock i m) h ≡ out Done (queues i m h)
  unfolding calls
  lock-queues a l w o r = rw (a, l, w, o, r) refl

  pub unlock-none : is_a h i ≡ false → calls (Unlock i m) h ≡ no 4 h
  unfolding calls
  unlock-none a = rw a refl

  pub unlock-bad : is_a h i ≡ true → leb 64 m ≡ true → calls (Unlock i m) h ≡ no 1 h
  unfolding calls
  unlock-bad a l = rw (a, l) refl

  pub unlock-waits : is_a h i ≡ true → leb 64 m ≡ false → not (eqb (h.waits i) 0) ≡ true → calls (Unlock i m) h ≡ no 9 h
  unfolding calls
  unlock-waits a l w = rw (a, l, w) refl

  pub unlock-other : is_a h i ≡ true → leb 64 m ≡ false → not (eqb (h.waits i) 0) ≡ false → eqb (h.owner m) (suc i) ≡ false → calls (Unlock i m) h ≡ no 8 h
  unfolding calls
  unlock-other a l w o = rw (a, l, w, o) refl

  pub unlock-done : is_a h i ≡ true → leb 64 m ≡ false → not (eqb (h.waits i) 0) ≡ false → eqb (h.owner m) (suc i) ≡ true → calls (Unlock i m) h ≡ out Done (gives m h)
  unfolding calls
  unlock-done a l w o = rw (a, l, w, o) refl
