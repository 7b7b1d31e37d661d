-- The turn of each rank is the turn of all, of which only that rank counts: kept when a task is made or ends, and when one goes to the end.
use Rattle.std.proofs.Common.{◌≡◌, ℕ, suc, ◌-◌, ◌<◌, Bool, true, false, cond, ◌&&◌, eqb, List, [], ◌∷◌, ◌++◌, sym, refl, ap, ◌∙◌, subst, inl, inr, arith}
use Rattle.std.proofs.lemmas.Bool.{cond_both, cases_eq, and_parts, and_from, eq-eqb, ne_eqb, eqb-true, both_ways}
use Rattle.queues.specs.Members as member
use Rattle.queues.specs.Rings as queue
use Rattle.queues.specs.Outcomes.{Pushed, Moved}
use Rattle.queues.specs.declared.fifo.Queues.{Queues}
use Rattle.queues.proofs.Standing.{holds_same}
use Rattle.queues.proofs.Lists.{without-none}
use Rattle.quantities.specs.Ids.{Rank}
use Rattle.sched.specs.declared.promise.Promise.{Promise}
use Rattle.sched.specs.declared.promise.Promise.TheVariants as promised
use Rattle.sched.specs.House.{Place, is_fixed, rank_of, without, put}
use Rattle.sched.specs.Promise.{times}
use Rattle.sched.specs.Stores.{keep, of_rank, kind_of, task_place, fixed_place}
use Rattle.sched.specs.Turns.{OnceInTurn, turn_after}
use Rattle.sched.proofs.Puts.{put-here, put-else}
use Rattle.sched.proofs.Keep.{without-same, times-member, keep-member, member-keep, keep-push, keep_same, keep-without}
use Rattle.sched.proofs.model.Turn.{fixed-task}

-- the turn of each rank
abbrev pub ranks : (ℕ → Place) → List ℕ → ℕ → List ℕ
ranks place turn r = keep (of_rank place r) turn

module _ (place : ℕ → Place) (turn : List ℕ) where
  -- who isn't in the turn is in no rank's
  pub absent-free : (i : ℕ) → times i turn ≡ 0 → member.Free (ranks place turn) i
  absent-free i none r m = absurd (omega (arith, (keep-member (of_rank place r) i turn m).1))

  -- nor is who isn't fixed
  pub other-free : (i : ℕ) → is_fixed (place i) ≡ false → member.Free (ranks place turn) i
  other-free i none r m =
      absurd (both_ways (is_fixed (place i)) none (and_parts (is_fixed (place i)) (eqb (rank_of (place i)) r) (keep-member (of_rank place r) i turn m).0).0)

  -- a fixed task is in that of its rank
  pub fixed-member : (i : ℕ) → is_fixed (place i) ≡ true → OnceInTurn place turn → member.Member i (ranks place turn (rank_of (place i)))
  fixed-member i fixed once =
      member-keep (of_rank place (rank_of (place i))) i turn (and_from _ _ fixed (eq-eqb (rank_of (place i)) (rank_of (place i)) refl))
      (times-member i turn (let one : times i turn ≡ 1 = rw (fixed-task (place i) fixed) at (once i) in omega arith))

  module _ (i : ℕ) (p : Place) (none : times i turn ≡ 0) where
    -- a new task changes nothing for the others
    others-kept : (r : ℕ) → keep (of_rank (put i p place) r) turn ≡ ranks place turn r
    others-kept r =
        keep_same (of_rank (put i p place) r) (of_rank place r) turn
        (λ k m. ap (λ x. is_fixed x && eqb (rank_of x) r) (put-else i p place k (λ e. let there : 0 < times i turn = rw e at m in absurd (omega arith))))

    made-ranks : (r : ℕ) → ranks (put i p place) (turn ++ (i ∷ [])) r ≡ cond (is_fixed p && eqb (rank_of p) r) (ranks place turn r ++ (i ∷ [])) (ranks place turn r)
    made-ranks r = keep-push (of_rank (put i p place) r) i turn ∙ rw (others-kept r, put-here i p place i refl) refl

    -- it is the last of its rank
    pub made-fixed : (s : Queues) → is_fixed p ≡ true → queue.Holds s (put (rank_of p) (ranks place turn (rank_of p) ++ (i ∷ [])) (ranks place turn)) → queue.Holds s (ranks (put i p place) (turn ++ (i ∷ [])))
    made-fixed s fixed h =
        holds_same h
        (λ r. sym (made-ranks r ∙ (rw fixed (elim (cases_eq r (rank_of p)) [
          | inl e ↦ rw (e, eq-eqb (rank_of p) (rank_of p) refl) refl
          | inr d ↦ rw (ne_eqb r (rank_of p) d, ne_eqb (rank_of p) r (λ e. d (sym e))) refl
        ]))))

    pub made_other : (s : Queues) → is_fixed p ≡ false → queue.Holds s (ranks place turn) → queue.Holds s (ranks (put i p place) (turn ++ (i ∷ [])))
    made_other s other h = holds_same h (λ r. sym (made-ranks r ∙ rw other refl))

  -- who ends is taken out
  pub ended-ranks : (i : ℕ) (p : Place) (s : Queues) → is_fixed p ≡ false → queue.Holds s (λ r. member.without i (ranks place turn r)) → queue.Holds s (ranks (put i p place) (without i turn))
  ended-ranks i p s other h =
      holds_same h
      (λ r. without-same i (ranks place turn r) ∙ sym (keep-without (of_rank place r) (of_rank (put i p place) r) i turn (λ k d. ap (λ x. is_fixed x && eqb (rank_of x) r) (put-else i p place k d))))

  -- a fixed task goes to the end of its rank
  pub moved-ranks : (i : ℕ) (s : Queues) → is_fixed (place i) ≡ true →
      queue.Holds s (put (rank_of (place i)) (member.without i (ranks place turn (rank_of (place i))) ++ (i ∷ [])) (ranks place turn)) → queue.Holds s (ranks place (without i turn ++ (i ∷ [])))
  moved-ranks i s fixed h =
      holds_same h (λ r. sym (keep-push (of_rank place r) i (without i turn) ∙ (rw (fixed, keep-without (of_rank place r) (of_rank place r) i turn (λ k d. refl)) (elim (cases_eq r (rank_of (place i))) [
        | inl e ↦ rw (e, eq-eqb (rank_of (place i)) (rank_of (place i)) refl, without-same i (ranks place turn (rank_of (place i)))) refl
        | inr d ↦ rw (ne_eqb r (rank_of (place i)) d, ne_eqb (rank_of (place i)) r (λ e. d (sym e))) (absent r d)
      ]))))
    where
      absent : (r : ℕ) → (r ≡ rank_of (place i) → ⊥) → without i (ranks place turn r) ≡ ranks place turn r
      absent r d =
          sym (without-same i (ranks place turn r)) ∙ without-none i (ranks place turn r)
          (λ m. d (sym (eqb-true (rank_of (place i)) r (and_parts (is_fixed (place i)) (eqb (rank_of (place i)) r) (keep-member (of_rank place r) i turn m).0).1)))

  -- A task is made: the queue of its rank has it last, if it is fixed.
  pub made-pushed : (t : Queues) (i q : ℕ) (promise : Promise) (rank : Rank) (r : Bool) → promise ≡ promised.Fixed rank → q ≡ rank.index → times i turn ≡ 0 → Pushed t (ranks place turn) q i r →
      queue.Holds t (ranks (put i (task_place promise) place) (turn ++ (i ∷ [])))
  unfolding kind_of is_fixed rank_of
  made-pushed t i q promise rank r e same none p =
      rw e (made-fixed i (fixed_place rank.index) none t refl (let P : ℕ → Type 0 = λ n. queue.Holds t (put n (ranks place turn n ++ (i ∷ [])) (ranks place turn)) in subst P same (p.after (p.free (absent-free i none)))))

  -- A tick has passed: the task goes to the end of its rank, if it is fixed.
  pub passed-moved : (s t : Queues) (i : ℕ) (r : Bool) → OnceInTurn place turn → queue.Holds s (ranks place turn) → Moved t (ranks place turn) i r → (r ≡ false → t ≡ s) → queue.Holds t (ranks place (turn_after (suc i) place turn))
  passed-moved s t i r once h m same =
      let one : suc i - 1 ≡ i = omega arith in
      rw (ne_eqb (suc i) 0 (omega arith), one)
      (cond_both (is_fixed (place i)) (without i turn ++ (i ∷ [])) turn (λ l. queue.Holds t (ranks place l)) (λ f. moved-ranks i t f (m.after (rank_of (place i)) (fixed-member i f once)))
      (λ f. rw (same (m.free (other-free i f))) h))
