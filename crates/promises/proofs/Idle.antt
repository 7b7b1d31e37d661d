-- Of a task that wants a tick and isn't due, is in no rank and isn't fair, only one thing can be true: it has had its quota.
use Rattle.std.proofs.Common.{◌≡◌, ℕ, ◌<◌, ◌≤◌, true, ◌&&◌, eqb, ltb, sym, refl, ap, ◌∙◌, ⊎_elim, true≢false, arith}
use Rattle.std.proofs.lemmas.Bool.{and_from, and_parts, cases_Bool, eq-eqb, lt-ltb, ltb-true, ltb-false, leb-true}
use Rattle.sched.specs.declared.Kind.{Kind}
use Rattle.sched.specs.declared.Kind.TheVariants.{Reserved, Fixed, Fair}
use Rattle.sched.specs.House.{House, A, good, is_task, is_reserved, is_fixed, rank_of, weight_of, quota_of, got_of, some', wants, due, rank_wants, fair_wants, may_rest, opened}
use Rattle.sched.proofs.Tests.{T_true, true-T}
use Rattle.sched.proofs.Bounded.{some-from, none-at}
use Rattle.sched.proofs.model.Places.{kind-of}
use Rattle.sched.proofs.model.Kinds.{comes-good}
use Rattle.sched.proofs.model.Ticks.{wants-opened, may-rest, rests}
use Rattle.promises.specs.Idle.{IdleOnlyIfUnwanted}

module _ (g : House) (rest : may_rest g ≡ true) (i : ℕ) (l : i < 64) (want : wants g i ≡ true) where
  abbrev HadItsQuota : Type 0
  HadItsQuota = (is_reserved (g.place i) ≡ true) × (quota_of (g.place i) ≤ got_of (g.window i))

  reserved-had : is_reserved (g.place i) ≡ true → quota_of (g.place i) ≤ got_of (g.window i)
  reserved-had r =
      ⊎_elim (λ t. absurd (true≢false (sym (and_from (is_reserved (g.place i) && wants g i) _ (and_from _ _ r want) t) ∙ none-at (due g) 64 i (rests g rest).0 l)))
      (ltb-false (got_of (g.window i)) (quota_of (g.place i))) (cases_Bool (ltb (got_of (g.window i)) (quota_of (g.place i))))

  no-fixed : is_fixed (g.place i) ≡ true → rank_of (g.place i) < 16 → ⊥
  no-fixed f r =
      true≢false
      (sym (some-from (rank_wants g (rank_of (g.place i))) 64 i l (and_from (is_fixed (g.place i) && eqb (rank_of (g.place i)) (rank_of (g.place i))) (wants g i) (and_from _ _ f (eq-eqb (rank_of (g.place i)) (rank_of (g.place i)) refl)) want))
      ∙ none-at (λ (r : ℕ). some' 64 (rank_wants g r)) 16 (rank_of (g.place i)) (rests g rest).1 r)

  no-fair : 0 < weight_of (g.place i) → ⊥
  no-fair w = true≢false (sym (and_from (ltb 0 (weight_of (g.place i))) (wants g i) (lt-ltb 0 (weight_of (g.place i)) w) want) ∙ none-at (fair_wants g) 64 i (rests g rest).2 l)

  had-quota : (k : Kind) → g.place i ≡ A k → good k ≡ true → HadItsQuota
  unfolding good is_reserved is_fixed rank_of weight_of
  had-quota (Reserved q p) e ok = let r = ap is_reserved e in (r, reserved-had r)
  had-quota (Fixed r) e ok =
      absurd (no-fixed (ap is_fixed e) (let x = ltb-true r 16 ok in let y = ap rank_of e in omega (arith, x, y)))
  had-quota (Fair w) e ok =
      absurd (no-fair (let x = leb-true 1 w (and_parts _ _ ok).0 in let y = ap weight_of e in omega (arith, x, y)))

pub idle-only-if-unwanted : IdleOnlyIfUnwanted
idle-only-if-unwanted h r j ran i want =
    let t : is_task (h.place i) ≡ true = (and_parts _ _ (and_parts _ _ (T_true (wants h i) want)).0).0 in
    let k = kind-of (h.place i) t in
    let ok = comes-good r i k.0 k.1 in
    let had = had-quota (opened h) (may-rest h j ran) i ok.0 (wants-opened h i ∙ T_true (wants h i) want) k.0 k.1 ok.1 in
    (true-T (is_reserved (h.place i)) had.0, had.1)
