-- What a tick that may be tells: whose it is and who runs, and that it's nobody's only if nobody is owed it.
use Rattle.std.proofs.Common.{◌≡◌, ℕ, suc, ◌-◌, Bool, true, false, cond, not, ◌&&◌, T, eqb, List, [], ◌∷◌, None, Option, sym, refl, ap, ◌∙◌, arith}
use Rattle.std.proofs.lemmas.Bool.{cond_both, and_parts, eqb-true, not-true}
use Rattle.sched.specs.House.{House, some', is_task, wants, due, rank_wants, fair_wants, in_turn, runner, may_take, may_rest, may_run, kept, opened, number_of}
use Rattle.sched.specs.Policy.{may_have}
use Rattle.sched.proofs.Tests.{T_true, and-left-T, and-three}
use Rattle.sched.proofs.model.Runner.{runner-same}

-- whoever has the turn passes the test
pub in-turn : (f : ℕ → Bool) (l : List ℕ) (i : ℕ) → in_turn f l ≡ suc i → f i ≡ true
unfolding in_turn
in-turn f [] i e = absurd (omega arith)
in-turn f (j ∷ js) i e =
    cond_both (f j) (suc j) (in_turn f js) (λ x. x ≡ suc i → f i ≡ true) (λ t x. ap f (let same : i ≡ j = omega arith in same) ∙ t) (λ _. in-turn f js i) e

-- windows and positions don't matter to who runs, nor so to who wants
pub runner-opened : (n : ℕ) (h : House) (i : ℕ) → runner n (opened h) i ≡ runner n h i
runner-opened n h i = runner-same h (opened h) (λ _. refl) (λ _. refl) n i

pub wants-opened : (h : House) (i : ℕ) → wants (opened h) i ≡ wants h i
wants-opened h i = ap (λ k. is_task (h.place i) && h.awake k && eqb (h.waits k) 0) (runner-opened 64 h i)

-- what `may_have` says, at a number n of whom it may be: 0, or 1 and the task
have-some : (n i j : ℕ) (rest : Bool) (take : ℕ → Bool) (run : ℕ → ℕ) → n ≡ suc i → cond (eqb n 0) rest (take (n - 1) && eqb j (run (n - 1))) ≡ true → (take i ≡ true) × (j ≡ run i)
have-some n i j rest take run e t =
    let at : n - 1 ≡ i = omega arith in
    let q = and_parts _ _ (cond_both (eqb n 0) rest (take (n - 1) && eqb j (run (n - 1))) (λ b. b ≡ true → (take (n - 1) && eqb j (run (n - 1))) ≡ true) (λ z. absurd (omega (arith, eqb-true n 0 z))) (λ _ x. x) t) in
    (ap take (sym at) ∙ q.0, eqb-true j (run (n - 1)) q.1 ∙ ap run at)

module _ (h : House) (t : Option ℕ) (j : ℕ) where
  pub may-have : (i : ℕ) → T (may_have h t j) → number_of t ≡ suc i → (may_take (opened h) i ≡ true) × (j ≡ runner 64 h i)
  may-have i m e = have-some (number_of t) i j (may_rest (opened h)) (may_take (opened h)) (runner 64 h) e (T_true _ m)

  pub run-have : T (may_run h t j) → T (may_have h t j)
  run-have m = and-left-T (may_have h t j) (kept (opened h) (number_of t)) m

pub may-rest : (h : House) (j : ℕ) → T (may_run h None j) → may_rest (opened h) ≡ true
unfolding number_of
may-rest h j t = (and_parts (may_rest (opened h)) (kept (opened h) 0) (T_true _ t)).0

-- a tick that nobody has: none is due, of no rank does one want, no fair one wants
pub rests : (g : House) → may_rest g ≡ true → (some' 64 (due g) ≡ false) × (some' 16 (λ (r : ℕ). some' 64 (rank_wants g r)) ≡ false) × (some' 64 (fair_wants g) ≡ false)
rests g e =
    let p = and-three (not (some' 64 (due g))) (not (some' 16 (λ (r : ℕ). some' 64 (rank_wants g r)))) (not (some' 64 (fair_wants g))) e in
    (not-true _ p.0, not-true _ p.1, not-true _ p.2)
