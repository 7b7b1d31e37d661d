-- A task that waits lends its ticks to whom it waits for. They count for it, and for nobody else.
use Rattle.std.specs.Prelude.{◌≡◌, ℕ, suc, ◌+◌, ◌*◌, ◌<◌, ◌≤◌, false, T, ◌⊎◌, [], ◌∷◌, ◌++◌, Some, ◌≢◌}
use Rattle.sched.specs.House.{House, Shut, is_task, is_reserved, is_fixed, weight_of, got_of, without, may_run, after, opened}
use Rattle.sched.specs.Promise.{Comes}
use Rattle.sched.specs.Windows.{ends_of}

-- j is i, or has, by way of any others, the lock that i waits for
pub data LendsTo (h : House) : ℕ → ℕ → Type 0 where
  itself : (i : ℕ) → LendsTo h i i
  through : (i m k j : ℕ) → h.waits i ≡ suc m → h.owner m ≡ suc k → LendsTo h k j → LendsTo h i j

-- how far a fair task is, in parts of its weight
abbrev pub parts : House → ℕ → ℕ
parts h i = h.far i * weight_of (h.place i) + h.rest i

-- A tick that takes h to g counts for i: its window has had one more, or is over if this was its last tick; it goes last in turn; it goes one part on.
pub record CountsFor (i : ℕ) (h g : House) : Type 0 where
  pub reserved : T (is_reserved (h.place i)) → ((ends_of (h.window i) ≤ 1) × (g.window i ≡ Shut)) ⊎ (got_of (g.window i) ≡ got_of (h.window i) + 1)
  pub fixed : T (is_fixed (h.place i)) → g.turn ≡ without i h.turn ++ (i ∷ [])
  pub fair : 0 < weight_of (h.place i) → parts g i ≡ parts h i + 1

-- and not for k
pub record CountsNot (k : ℕ) (h g : House) : Type 0 where
  pub windows : ((ends_of (h.window k) ≤ 1) × (g.window k ≡ Shut)) ⊎ (got_of (g.window k) ≡ got_of (h.window k))
  pub position : parts g k ≡ parts h k

-- the tick is i's, and j runs in it
pub record Lent (h : House) (i j : ℕ) : Type 0 where
  pub task : T (is_task (h.place j))
  pub awake : T (h.awake j)
  pub free : h.waits j ≡ 0
  pub lends : LendsTo h i j
  pub counts : CountsFor i (opened h) (after h (Some i))
  pub others : (k : ℕ) → (k ≢ i) → CountsNot k (opened h) (after h (Some i))
  pub turn : is_fixed (h.place i) ≡ false → (after h (Some i)).turn ≡ h.turn

abbrev pub Lends : Type 0
Lends = (h : House) → Comes h → (i j : ℕ) → T (may_run h (Some i) j) → Lent h i j
