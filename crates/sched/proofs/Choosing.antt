-- Whose the tick is: from the candidates of the kinds, in their order, to what the rules allow, and on to the house after the tick.
use Rattle.std.proofs.Common.{◌≡◌, ℕ, suc, ◌-◌, ◌<◌, ◌≤◌, Bool, true, false, cond, not, ◌&&◌, T, eqb, ltb, List, Some, None, Option, sym, refl, ◌∙◌, subst, ⊎_elim, arith, MatchOption}
use Rattle.std.proofs.lemmas.Bool.{cases_eq, and_from, and_left, and_right, and_cases, not_from_false, both_ways, eq-eqb, ne_eqb, lt-ltb, cond-true, cond-false}
use Rattle.quantities.specs.Ids.{TaskId}
use Rattle.queues.specs.Rings as queue
use Rattle.queues.specs.declared.fifo.Queues.{Queues}
use Rattle.queues.proofs.Standing.{holds_same}
use Rattle.sched.specs.declared.Scheduler.{Scheduler}
use Rattle.sched.specs.House.{House, Place, Nobody, A, Kept, Window, Shut, Open, some', is_fixed, rank_of, wants, due, rank_wants, fair_wants, least_far, top_rank, in_turn, may_take, may_rest, may_run, opened, freed, ticked, after, kept, runner, number_of}
use Rattle.sched.specs.Promise.{Comes}
use Rattle.sched.specs.Policy.{whole_due, WholeFirst, may_have}
use Rattle.sched.specs.Windows.{ends_of, is_whole}
use Rattle.sched.specs.Quotas.{Quotas}
use Rattle.sched.specs.Stores.{Stores, Holds, owner_of, of_rank}
use Rattle.sched.specs.Begun.{LeastHas}
use Rattle.sched.specs.Midtick.{SoonestDue, FirstInTurn, fixed_wants, Chosen}
use Rattle.sched.proofs.Tests.{T_true, true-T, and_T, and-left-T}
use Rattle.sched.proofs.Bounded.{some-from, none_from, none-at}
use Rattle.sched.proofs.Keep.{keep_same}
use Rattle.sched.proofs.TurnKept.{ranks}
use Rattle.sched.proofs.model.TakeWays.{take-ways, fair-takes}
use Rattle.sched.proofs.model.Quotas.{quotas-kept, quotas-tick}

module _ (h : House) where
  -- i may have the tick
  chosen-some : (i : TaskId) → may_take (opened h) i.index ≡ true → ((j : ℕ) → j < 64 → T (whole_due (opened h) j) → T (whole_due (opened h) i.index) × (ends_of ((opened h).window i.index) ≤ ends_of ((opened h).window j))) → Chosen h (Some i)
  unfolding owner_of
  chosen-some i may first =
      record {
        may = let one : suc i.index - 1 ≡ i.index = omega arith in rw (ne_eqb (suc i.index) 0 (omega arith), one) (true-T (may_take (opened h) i.index) may);
        whole = λ j l d. let f = first j l d in (i.index, refl, f.0, f.1);
      }

  pub chosen-due : (i : TaskId) → SoonestDue (opened h) i.index → Chosen h (Some i)
  chosen-due i s =
      chosen-some i (and_from (ltb i.index 64) _ (lt-ltb i.index 64 i.within) (cond-true (some' 64 (due (opened h))) (due (opened h) i.index) _ (some-from (due (opened h)) 64 i.index i.within s.here) ∙ s.here)) s.first

  module _ (none : some' 64 (due (opened h)) ≡ false) where
    -- nobody is due, so no whole window is
    none-whole : (j : ℕ) → j < 64 → T (whole_due (opened h) j) → ⊥
    none-whole j l d = both_ways (due (opened h) j) (none-at (due (opened h)) 64 j none l) (T_true (due (opened h) j) (and-left-T (due (opened h) j) (is_whole ((opened h).window j)) d))

    pub chosen-fixed : (i : TaskId) → FirstInTurn (opened h) i.index → Chosen h (Some i)
    chosen-fixed i f =
        chosen-some i
        (and_from (ltb i.index 64) _ (lt-ltb i.index 64 i.within) (cond-false (some' 64 (due (opened h))) (due (opened h) i.index) _ none
        ∙ cond-true (some' 16 (λ (r : ℕ). some' 64 (rank_wants (opened h) r))) (eqb (suc i.index) (in_turn (rank_wants (opened h) (top_rank (opened h))) (opened h).turn)) (least_far (opened h) i.index) f.some
        ∙ eq-eqb (suc i.index) (in_turn (rank_wants (opened h) (top_rank (opened h))) (opened h).turn) (sym f.first)))
        (λ j l d. absurd (none-whole j l d))

    module _ (unranked : some' 64 (fixed_wants (opened h)) ≡ false) where
      -- no fixed one wants, of no rank
      none-ranked : some' 16 (λ (r : ℕ). some' 64 (rank_wants (opened h) r)) ≡ false
      none-ranked =
          none_from (λ (r : ℕ). some' 64 (rank_wants (opened h) r)) 16
          (λ r _. none_from (rank_wants (opened h) r) 64
          (λ i l. ⊎_elim (λ e. and_left (is_fixed (h.place i) && eqb (rank_of (h.place i)) r) (wants (opened h) i) (and_left (is_fixed (h.place i)) (eqb (rank_of (h.place i)) r) e)) (λ e. and_right (is_fixed (h.place i) && eqb (rank_of (h.place i)) r) (wants (opened h) i) e)
          (and_cases (is_fixed (h.place i)) (wants (opened h) i) (none-at (fixed_wants (opened h)) 64 i unranked l))))

      pub chosen-fair : (t : Option TaskId) → MatchOption t (some' 64 (fair_wants (opened h)) ≡ false) (λ i. least_far (opened h) i.index ≡ true) → Chosen h t
      unfolding owner_of
      chosen-fair None unfair =
          record {
            may = true-T (may_rest (opened h)) (and_from (not (some' 64 (due (opened h))) && not (some' 16 (λ (r : ℕ). some' 64 (rank_wants (opened h) r)))) (not (some' 64 (fair_wants (opened h))))
                (and_from (not (some' 64 (due (opened h)))) (not (some' 16 (λ (r : ℕ). some' 64 (rank_wants (opened h) r)))) (not_from_false (some' 64 (due (opened h))) none) (not_from_false (some' 16 (λ (r : ℕ). some' 64 (rank_wants (opened h) r))) none-ranked)) (not_from_false (some' 64 (fair_wants (opened h))) unfair));
            whole = λ j l d. absurd (none-whole j l d);
          }
      chosen-fair (Some i) least =
          chosen-some i
          (and_from (ltb i.index 64) _ (lt-ltb i.index 64 i.within) (cond-false (some' 64 (due (opened h))) (due (opened h) i.index) _ none
          ∙ cond-false (some' 16 (λ (r : ℕ). some' 64 (rank_wants (opened h) r))) (eqb (suc i.index) (in_turn (rank_wants (opened h) (top_rank (opened h))) (opened h).turn)) (least_far (opened h) i.index) none-ranked ∙ least))
          (λ j l d. absurd (none-whole j l d))

-- of a tick that is somebody's
some-taken : (n i : ℕ) (rest : Bool) (take : ℕ → Bool) → n ≡ suc i → T (cond (eqb n 0) rest (take (n - 1))) → take i ≡ true
some-taken n i rest take e t =
    let one : n - 1 ≡ i = omega arith in
    T_true (take i) (rw (ne_eqb n 0 (omega arith), one) at t)

pub chosen-taken : (h : House) (t : Option TaskId) (i : ℕ) → Chosen h t → owner_of t ≡ suc i → may_take (opened h) i ≡ true
chosen-taken h t i c e = some-taken (owner_of t) i (may_rest (opened h)) (may_take (opened h)) e c.may

-- if it is a fair task's, it is the least far
pub chosen-least : (h : House) (t : Option TaskId) → Chosen h t → LeastHas h t
chosen-least h t c i e l = fair-takes (opened h) i (take-ways (opened h) i (chosen-taken h t i c e)).1 l

-- AFTER THE TICK
freed-rank : (w : Window) (p : Place) (r : ℕ) → (is_fixed p && eqb (rank_of p) r) ≡ (is_fixed (freed w p) && eqb (rank_of (freed w p)) r)
unfolding freed is_fixed
freed-rank Shut Nobody r = refl
freed-rank Shut (A k) r = refl
freed-rank Shut (Kept q p) r = refl
freed-rank (Open e g b) p r = refl

-- places that go free are nobody's turn
pub freed-turn : (s : Queues) (place : ℕ → Place) (w : ℕ → Window) (turn : List ℕ) → queue.Holds s (ranks place turn) → queue.Holds s (ranks (λ i. freed (w i) (place i)) turn)
freed-turn s place w turn h =
    holds_same h (λ r. keep_same (of_rank place r) (of_rank (λ i. freed (w i) (place i)) r) turn (λ k _. freed-rank (w k) (place k) r))

-- WHAT IS SAID
said : (n j : ℕ) (rest : Bool) (take : ℕ → Bool) (run : ℕ → ℕ) → T (cond (eqb n 0) rest (take (n - 1))) → ((i : ℕ) → n ≡ suc i → j ≡ run i) → T (cond (eqb n 0) rest (take (n - 1) && eqb j (run (n - 1))))
said n j rest take run t runs =
    ⊎_elim (λ z. rw (eq-eqb n 0 z) (let u : T rest = rw (eq-eqb n 0 z) at t in u))
    (λ s. rw (ne_eqb n 0 s) (and_T (take (n - 1)) (eqb j (run (n - 1))) (rw (ne_eqb n 0 s) at t) (true-T (eqb j (run (n - 1))) (eq-eqb j (run (n - 1)) (runs (n - 1) (omega arith)))))) (cases_eq n 0)

module _ (h : House) (whose : Option TaskId) (t : Option ℕ) (j : ℕ) (c : Chosen h whose) (same : number_of t ≡ owner_of whose) (runs : (i : ℕ) → owner_of whose ≡ suc i → j ≡ runner 64 h i) where
  may-have : T (may_have h t j)
  may-have =
      said (number_of t) j (may_rest (opened h)) (may_take (opened h)) (runner 64 h)
      (let P : ℕ → Type 0 = λ n. T (cond (eqb n 0) (may_rest (opened h)) (may_take (opened h) (n - 1))) in subst P (sym same) c.may) (λ i e. runs i (sym same ∙ e))

  whole-first : WholeFirst h t
  whole-first = record { first = λ k l d. let f = c.whole k l d in (f.0, same ∙ f.1, f.2, f.3) }

  -- the tick may be so, and what is kept stands for the house after it
  pub picked : (s : Scheduler) → Comes h → Quotas h.place h.window → Stores s (ticked (opened h) (owner_of whose)) → T (may_run h t j) × Holds s (after h t)
  picked s comes quotas stores =
      let may : T (may_run h t j) = and_T (may_have h t j) (kept (opened h) (number_of t)) may-have (quotas-kept h (number_of t) quotas) in (
        may,
        record {
          comes = Comes.ran t j comes may;
          quotas = quotas-tick h t j may-have whole-first quotas;
          stores = let P : ℕ → Type 0 = λ n. Stores s (ticked (opened h) n) in subst P (sym same) stores;
        },
      )
