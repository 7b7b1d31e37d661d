-- Whose turn it is among fixed tasks, by when each was made and had its ticks.
-- Assumes nothing.
use Rattle.std.specs.Prelude.{◌≡◌, ℕ, suc, ◌<◌, cond, T, ◌⊎◌, Option, ◌==◌, ◌≢◌}
use Rattle.sched.specs.declared.Call.{Call}
use Rattle.sched.specs.declared.Answer.{Answer}
use Rattle.sched.specs.declared.Answer.TheVariants.{Done, Id, No}
use Rattle.sched.specs.House.{House, empty, put, is_fixed, rank_of, wants, calls, may_run, after, number_of}

-- a call at n dates the task that it makes
unfoldable pub dates : Answer → ℕ → (ℕ → ℕ) → ℕ → ℕ
dates Done n last = last
dates (Id i) n last = put i n last
dates (No k) n last = last

-- What can have come about in n calls and ticks, and when each task was last made or last had a tick.
pub data Dated : ℕ → House → (ℕ → ℕ) → Type 0 where
  begin : Dated 0 empty (λ i. 0)
  called : {n : ℕ} {h : House} {last : ℕ → ℕ} (c : Call) → Dated n h last → Dated (suc n) (calls c h).house (dates (calls c h).answer n last)
  ran : {n : ℕ} {h : House} {last : ℕ → ℕ} (t : Option ℕ) (j : ℕ) → Dated n h last → T (may_run h t j) → Dated (suc n) (after h t) (λ i. cond (number_of t == suc i) n (last i))

-- A fixed task that has the tick goes before every other fixed one that wants it: its rank is the lower one,
-- or the ranks are equal and its last tick, or its making if it had none, is longer ago.
abbrev pub InTurn : Type 0
InTurn =
    (n : ℕ) (h : House) (last : ℕ → ℕ) → Dated n h last → (t : Option ℕ) (j : ℕ) → T (may_run h t j) →
    (i k : ℕ) → number_of t ≡ suc i → T (is_fixed (h.place i)) → T (is_fixed (h.place k)) → T (wants h k) → (k ≢ i) →
    (rank_of (h.place i) < rank_of (h.place k)) ⊎ ((rank_of (h.place i) ≡ rank_of (h.place k)) × (last i < last k))
