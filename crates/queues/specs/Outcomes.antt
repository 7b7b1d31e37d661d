-- What the operations come to, for the queues that a state stands for.
-- Assumes nothing.
use Rattle.std.specs.Prelude.{◌≡◌, ℕ, Bool, true, false, List, [], ◌∷◌, ◌++◌, Option, MatchOption}
use Rattle.quantities.specs.Ids.{TaskId, QueueId}
use Rattle.queues.specs.Members.{Member, Free, rest, without, put}
use Rattle.queues.specs.Rings.{Holds}
use Rattle.queues.specs.declared.fifo.Queues.{Queues}

-- r is the first of the list, if it has one
abbrev pub First : List ℕ → Option TaskId → Type 0
First xs r = MatchOption r (xs ≡ []) (λ t. xs ≡ (t.index ∷ rest xs))

-- r is the one queue in which i stands, if it stands in one
abbrev pub StandsIn : (ℕ → List ℕ) → ℕ → Option QueueId → Type 0
StandsIn f i r = MatchOption r (Free f i) (λ q. Member i (f q.index) × ((p : ℕ) → Member i (f p) → p ≡ q.index))

-- The state stood for f and is now t, and r is the answer.
-- i is put last in q, unless it stood in a queue
pub record Pushed (t : Queues) (f : ℕ → List ℕ) (q i : ℕ) (r : Bool) : Type 0 where
  pub free : Free f i → r ≡ true
  pub stood : (p : ℕ) → Member i (f p) → r ≡ false
  pub after : r ≡ true → Holds t (put q (f q ++ (i ∷ [])) f)

-- i is taken out of wherever it stood
pub record Removed (t : Queues) (f : ℕ → List ℕ) (i : ℕ) (r : Bool) : Type 0 where
  pub free : Free f i → r ≡ false
  pub stood : (p : ℕ) → Member i (f p) → r ≡ true
  pub after : Holds t (λ p. without i (f p))

-- i is put last in the queue in which it stood
pub record Moved (t : Queues) (f : ℕ → List ℕ) (i : ℕ) (r : Bool) : Type 0 where
  pub free : Free f i → r ≡ false
  pub stood : (p : ℕ) → Member i (f p) → r ≡ true
  pub after : (p : ℕ) → Member i (f p) → Holds t (put p (without i (f p) ++ (i ∷ [])) f)
