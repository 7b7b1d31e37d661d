-- Whose a tick may be, split once: one that is due, the fixed one whose turn it is, or a fair one that is least far.
use Rattle.std.proofs.Common.{◌≡◌, ℕ, suc, ◌<◌, true, false, T, eqb, ltb, Option, sym, refl, arith}
use mathlib.Core.Bool.{false≢true}
use Rattle.std.proofs.lemmas.Bool.{cond_both, and_parts, ltb-true, eqb-true}
use Rattle.sched.specs.House.{House, Place, Nobody, A, Kept, is_reserved, is_fixed, rank_of, weight_of, quota_of, got_of, some', due, rank_wants, top_rank, in_turn, least_far, runner, wants, fair_wants, opened, may_take, may_run, number_of}
use Rattle.sched.specs.Policy.{may_have}
use Rattle.sched.specs.declared.Kind.TheVariants.{Reserved, Fixed, Fair}
use Rattle.sched.proofs.Tests.{and-three}
use Rattle.sched.proofs.model.Ticks.{in-turn, may-have, run-have}

-- who has the tick, with why
pub data Takes (h : House) (i : ℕ) : Type 0 where
  as-due : due h i ≡ true → Takes h i
  as-fixed : some' 64 (due h) ≡ false → some' 16 (λ (r : ℕ). some' 64 (rank_wants h r)) ≡ true → in_turn (rank_wants h (top_rank h)) h.turn ≡ suc i → Takes h i
  as-fair : some' 64 (due h) ≡ false → some' 16 (λ (r : ℕ). some' 64 (rank_wants h r)) ≡ false → least_far h i ≡ true → Takes h i

pub take-ways : (h : House) (i : ℕ) → may_take h i ≡ true → (i < 64) × Takes h i
take-ways h i e =
    let both = and_parts (ltb i 64) _ e in (
      ltb-true i 64 both.0,
      cond_both (some' 64 (due h)) (due h i) _ (λ b. b ≡ true → Takes h i) (λ _. as-due)
          (λ d. cond_both (some' 16 (λ (r : ℕ). some' 64 (rank_wants h r))) (eqb (suc i) (in_turn (rank_wants h (top_rank h)) h.turn)) (least_far h i) (λ b. b ≡ true → Takes h i)
          (λ s t. as-fixed d s (sym (eqb-true _ _ t))) (as-fair d)) both.1,
    )

-- of a tick that is somebody's: whose, and who runs
pub have-taken : (h : House) (t : Option ℕ) (j i : ℕ) → T (may_have h t j) → number_of t ≡ suc i → (i < 64) × Takes (opened h) i × (j ≡ runner 64 h i)
have-taken h t j i m e =
    let may = may-have h t j i m e in
    let take = take-ways (opened h) i may.0 in
    (take.0, take.1, may.1)

pub run-taken : (h : House) (t : Option ℕ) (j i : ℕ) → T (may_run h t j) → number_of t ≡ suc i → (i < 64) × Takes (opened h) i × (j ≡ runner 64 h i)
run-taken h t j i m e = have-taken h t j i (run-have h t j m) e

pub rank-wants-parts : (h : House) (r i : ℕ) → rank_wants h r i ≡ true → (is_fixed (h.place i) ≡ true) × (rank_of (h.place i) ≡ r) × (wants h i ≡ true)
rank-wants-parts h r i e =
    let parts = and-three (is_fixed (h.place i)) (eqb (rank_of (h.place i)) r) (wants h i) e in
    (parts.0, eqb-true (rank_of (h.place i)) r parts.1, parts.2)

reserved-weightless : (p : Place) → is_reserved p ≡ true → weight_of p ≡ 0
unfolding is_reserved weight_of
reserved-weightless Nobody e = refl
reserved-weightless (A (Reserved q p)) e = refl
reserved-weightless (A (Fixed r)) e = refl
reserved-weightless (A (Fair w)) e = absurd (false≢true e)
reserved-weightless (Kept q p) e = refl

fixed-weightless : (p : Place) → is_fixed p ≡ true → weight_of p ≡ 0
unfolding is_fixed weight_of
fixed-weightless Nobody e = refl
fixed-weightless (A (Reserved q p)) e = refl
fixed-weightless (A (Fixed r)) e = refl
fixed-weightless (A (Fair w)) e = absurd (false≢true e)
fixed-weightless (Kept q p) e = refl

reserved-unfixed : (p : Place) → is_reserved p ≡ true → is_fixed p ≡ true → ⊥
unfolding is_reserved is_fixed
reserved-unfixed Nobody e f = false≢true e
reserved-unfixed (A (Reserved q p)) e f = false≢true f
reserved-unfixed (A (Fixed r)) e f = false≢true e
reserved-unfixed (A (Fair w)) e f = false≢true e
reserved-unfixed (Kept q p) e f = false≢true e

-- WHAT EACH TELLS of whose tick it is
module _ (h : House) (i : ℕ) where
  pub due-parts : due h i ≡ true → (is_reserved (h.place i) ≡ true) × (wants h i ≡ true) × (got_of (h.window i) < quota_of (h.place i))
  due-parts d =
      let parts = and-three (is_reserved (h.place i)) (wants h i) (ltb (got_of (h.window i)) (quota_of (h.place i))) d in
      (parts.0, parts.1, ltb-true _ _ parts.2)

  pub turn-parts : in_turn (rank_wants h (top_rank h)) h.turn ≡ suc i → (is_fixed (h.place i) ≡ true) × (rank_of (h.place i) ≡ top_rank h) × (wants h i ≡ true)
  turn-parts t = rank-wants-parts h (top_rank h) i (in-turn (rank_wants h (top_rank h)) h.turn i t)

  pub least-parts : least_far h i ≡ true → (0 < weight_of (h.place i)) × (wants h i ≡ true)
  least-parts e =
      let parts = and_parts (ltb 0 (weight_of (h.place i))) (wants h i) (and_parts (fair_wants h i) _ e).0 in
      (ltb-true _ _ parts.0, parts.1)

  pub takes-wants : Takes h i → wants h i ≡ true
  takes-wants (as-due d) = (due-parts d).1
  takes-wants (as-fixed n s t) = (turn-parts t).2
  takes-wants (as-fair n m e) = (least-parts e).1

  -- a reserved task has the tick only if it is due
  pub reserved-takes : Takes h i → is_reserved (h.place i) ≡ true → due h i ≡ true
  reserved-takes (as-due d) r = d
  reserved-takes (as-fixed n s t) r = absurd (reserved-unfixed (h.place i) r (turn-parts t).0)
  reserved-takes (as-fair n m e) r = absurd (omega (arith, (least-parts e).0, reserved-weightless (h.place i) r))

  -- a fixed one only if it is its turn
  pub fixed-takes : Takes h i → is_fixed (h.place i) ≡ true → (some' 16 (λ (r : ℕ). some' 64 (rank_wants h r)) ≡ true) × (in_turn (rank_wants h (top_rank h)) h.turn ≡ suc i)
  fixed-takes (as-due d) f = absurd (reserved-unfixed (h.place i) (due-parts d).0 f)
  fixed-takes (as-fixed n s t) f = (s, t)
  fixed-takes (as-fair n m e) f = absurd (omega (arith, (least-parts e).0, fixed-weightless (h.place i) f))

  -- a fair one only if it is least far
  pub fair-takes : Takes h i → 0 < weight_of (h.place i) → least_far h i ≡ true
  fair-takes (as-due d) l = absurd (omega (arith, reserved-weightless (h.place i) (due-parts d).0))
  fair-takes (as-fixed n s t) l = absurd (omega (arith, fixed-weightless (h.place i) (turn-parts t).0))
  fair-takes (as-fair n m e) l = e
