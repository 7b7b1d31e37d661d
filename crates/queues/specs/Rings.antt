-- What the links stand for: each queue is a ring through 64, which stands for nobody: it follows the last and comes before the first.
-- Assumes nothing.
use Rattle.std.specs.Prelude.{◌≡◌, ℕ, ◌<◌, ◌≤◌, cond, List, [], ◌∷◌, Option, None, Some, length, nat_lt, slice_index_or}
use Rattle.std.proofs.Math.Nat.{le_refl, le_of_lt}
use Rattle.quantities.specs.declared.ids.Id.{Id}
use Rattle.queues.specs.Members.{Member, times}
use Rattle.queues.specs.declared.packed.Packed.{Packed}
use Rattle.queues.specs.declared.fifo.Link.{Link}
use Rattle.queues.specs.declared.fifo.Ends.{Ends}
use Rattle.queues.specs.declared.fifo.Queues.{Queues}

-- the number of whoever or whatever is named, and 64 for none
abbrev pub spot : {K : Type 0} → Option (Id K 64) → ℕ
spot None = 64
spot (Some i) = i.index

pub spot-within : {K : Type 0} (whom : Option (Id K 64)) → spot whom ≤ 64
spot-within None = le_refl 64
spot-within (Some i) = le_of_lt i.within

-- who is named, or nobody, in one byte
abbrev pub packed : {K : Type 0} → Option (Id K 64) → Packed K
packed whom = record { number = spot whom; of = record {}; within = spot-within whom }

abbrev pub link_of : Queues → ℕ → Link
link_of s i = slice_index_or s.links i (record { next = packed None; prev = packed None; at = packed None })

abbrev pub ends_of : Queues → ℕ → Ends
ends_of s q = slice_index_or s.ends q (record { head = packed None; tail = packed None })

-- the number of the queue in which i stands, or 64
abbrev pub place_of : Queues → ℕ → ℕ
place_of s i = (link_of s i).at.number

-- who comes after a in the ring of q
unfoldable pub after : Queues → ℕ → ℕ → ℕ
after s q a = cond (nat_lt a 64) (link_of s a).next.number (ends_of s q).head.number

-- who comes before b in the ring of q
unfoldable pub before : Queues → ℕ → ℕ → ℕ
before s q b = cond (nat_lt b 64) (link_of s b).prev.number (ends_of s q).tail.number

abbrev pub Linked : Queues → (q a b : ℕ) → Type 0
Linked s q a b = (after s q a ≡ b) × (before s q b ≡ a)

-- the ring of q goes from a through these to 64
abbrev pub Ring : Queues → (q a : ℕ) → List ℕ → Type 0
Ring s q a [] = Linked s q a 64
Ring s q a (i ∷ is) = Linked s q a i × Ring s q i is

-- s stands for the queues f, of which f q is queue q, the first first
pub record Holds (s : Queues) (f : ℕ → List ℕ) : Type 0 where
  pub members : length s.links ≡ 64
  pub queues : length s.ends ≡ 64
  pub ring : (q : ℕ) → q < 64 → Ring s q 64 (f q)
  -- members and queues are below 64
  pub member : (q i : ℕ) → Member i (f q) → i < 64
  pub queue : (q i : ℕ) → Member i (f q) → q < 64
  -- a member's place names the queue that it stands in, so it stands in no other
  pub place : (q i : ℕ) → Member i (f q) → place_of s i ≡ q
  pub found : (i : ℕ) → i < 64 → place_of s i < 64 → Member i (f (place_of s i))
  -- and nobody stands in one twice
  pub once : (q i : ℕ) → times i (f q) ≤ 1
