-- The turns of the ranks, one after the other: the first rank of which one wants, and its first, are those that the rules name.
use Rattle.std.proofs.Common.{◌≡◌, ℕ, ◌<◌, true, false, ◌&&◌, eqb, get_or, is_some, Some, None, Option, sym, refl, ap, ◌∙◌, ⊎_elim, true≢false, arith, MatchOption}
use mathlib.Core.Bool.{false≢true}
use Rattle.std.proofs.lemmas.Bool.{cases_Bool, and_parts, and_from, both_ways, eq-eqb}
use Rattle.quantities.specs.Ids.{TaskId}
use Rattle.sched.specs.declared.promise.Promise.TheVariants as promised
use Rattle.sched.specs.declared.tasks.Tasks.{Tasks}
use Rattle.sched.specs.declared.tasks.Slot.{Slot}
use Rattle.sched.specs.declared.tasks.Slot.TheVariants as slot
use Rattle.sched.specs.House.{House, some', is_fixed, rank_of, wants, rank_wants, top_rank, in_turn}
use Rattle.sched.specs.Promise.{times}
use Rattle.sched.specs.Stores.{place_of, kind_of, owner_of}
use Rattle.sched.specs.Midtick.{SlotsOf, fixed_wants, FirstInTurn}
use Rattle.sched.specs.Turns.{OnceInTurn}
use Rattle.sched.proofs.Bounded.{some-from, none_from, first-unique}
use Rattle.sched.proofs.Walks.{turn-none}
use Rattle.sched.proofs.model.Ticks.{in-turn}
use Rattle.sched.proofs.model.Turn.{fixed-task}

rank_below : (s : Slot) → is_fixed (place_of s) ≡ true → rank_of (place_of s) < 16
unfolding place_of kind_of is_fixed rank_of
rank_below slot.Free e = absurd (false≢true e)
rank_below (slot.Task (promised.Reserved r)) e = absurd (false≢true e)
rank_below (slot.Task (promised.Fixed r)) e = r.within
rank_below (slot.Task (promised.Fair w)) e = absurd (false≢true e)
rank_below (slot.Kept r) e = absurd (false≢true e)

module _ (h : House) (once : OnceInTurn h.place h.turn) where
  -- if nobody has the turn of a rank, nobody of it wants
  rank-none : (r : ℕ) → in_turn (rank_wants h r) h.turn ≡ 0 → (i : ℕ) → rank_wants h r i ≡ false
  rank-none r none i =
      ⊎_elim
      (λ e.
      let fixed = (and_parts (is_fixed (h.place i)) (eqb (rank_of (h.place i)) r) (and_parts (is_fixed (h.place i) && eqb (rank_of (h.place i)) r) (wants h i) e).0).0 in
      let one : times i h.turn ≡ 1 = rw (fixed-task (h.place i) fixed) at (once i) in
      turn-none (rank_wants h r) h.turn i none (omega arith))
      (λ e. e) (cases_Bool (rank_wants h r i))

  pub first-in-rank : (k : ℕ) (t : Option TaskId) → k < 16 → is_some t ≡ true → owner_of t ≡ in_turn (rank_wants h k) h.turn → ((r : ℕ) → r < k → in_turn (rank_wants h r) h.turn ≡ 0) →
      MatchOption t (some' 64 (fixed_wants h) ≡ false) (λ i. FirstInTurn h i.index)
  unfolding owner_of
  first-in-rank k None l some e before = absurd (false≢true some)
  first-in-rank k (Some i) l some e before =
      let may = in-turn (rank_wants h k) h.turn i.index (sym e) in
      let one = some-from (rank_wants h k) 64 i.index i.within may in
      let top : top_rank h ≡ k = first-unique (λ (r : ℕ). some' 64 (rank_wants h r)) 16 k l one (λ r less. none_from (rank_wants h r) 64 (λ j _. rank-none r (before r less) j)) in
      record {
        some = some-from (λ (r : ℕ). some' 64 (rank_wants h r)) 16 k l one;
        first = rw top (sym e);
      }

  pub no-rank : (tasks : Tasks) → SlotsOf tasks h → ((r : ℕ) → r < 16 → in_turn (rank_wants h r) h.turn ≡ 0) → some' 64 (fixed_wants h) ≡ false
  no-rank tasks slots none =
      none_from (fixed_wants h) 64
      (λ i l. ⊎_elim
      (λ e.
      let p = and_parts (is_fixed (h.place i)) (wants h i) e in
      let low : rank_of (h.place i) < 16 = rw (slots.at i) at (rank_below (get_or tasks.slots i slot.Free) (ap is_fixed (slots.at i) ∙ p.0)) in
      let wants-it = and_from (is_fixed (h.place i) && eqb (rank_of (h.place i)) (rank_of (h.place i))) (wants h i) (and_from (is_fixed (h.place i)) (eqb (rank_of (h.place i)) (rank_of (h.place i))) p.0 (eq-eqb (rank_of (h.place i)) (rank_of (h.place i)) refl)) p.1 in
      absurd (both_ways (rank_wants h (rank_of (h.place i)) i) (rank-none (rank_of (h.place i)) (none (rank_of (h.place i)) low) i) wants-it))
      (λ e. e) (cases_Bool (fixed_wants h i)))

pub owner-none : (t : Option TaskId) → is_some t ≡ false → owner_of t ≡ 0
unfolding owner_of
owner-none None e = refl
owner-none (Some i) e = absurd (true≢false e)
