-- Fair tasks while a tick begins, and once it has begun: against the house in which it begins.
use Rattle.std.specs.Prelude.{◌≡◌, ℕ, suc, ◌+◌, ◌<◌, Bool, true, false, cond, List, Option, MatchOption, nat_lt, slice_index_or}
use Rattle.quantities.specs.Ids.{TaskId}
use Rattle.virtual_time.specs.declared.position.Position.{Position}
use Rattle.sched.specs.declared.fair.Fair.{Fair}
use Rattle.sched.specs.House.{House, some', weight_of, wants, fair_wants, opened, nearer, least_far, ticked}
use Rattle.sched.specs.Stores.{Reads, Exact, AllStand, owner_of}

-- flags that say who wants
abbrev pub Wanting : List Bool → House → Type 0
Wanting flags h = Reads (λ (b : Bool). b) false flags (wants h)

-- f below k, and g from there on
abbrev pub up_to : {Y : Type 0} → ℕ → (ℕ → Y) → (ℕ → Y) → ℕ → Y
up_to k f g i = cond (nat_lt i k) (f i) (g i)

-- of those below k that want, i is the first of the least far
pub record LeastBelow (h : House) (k i : ℕ) : Type 0 where
  pub below : i < k
  pub wants' : fair_wants h i ≡ true
  pub least : (j : ℕ) → j < k → fair_wants h j ≡ true → nearer h j i ≡ false
  pub first' : (j : ℕ) → j < i → fair_wants h j ≡ true → nearer h i j ≡ true

abbrev pub Candidate : House → ℕ → Option TaskId → Type 0
Candidate h k least = MatchOption least ((j : ℕ) → j < k → fair_wants h j ≡ false) (λ i. LeastBelow h k i.index)

-- the position with which i begins the tick
abbrev pub StandsAt : ℕ → ℕ → House → Position → Type 0
StandsAt base i h p = Exact base (weight_of (h.place i)) ((opened h).far i) ((opened h).rest i) p

-- While a tick begins: places below k are as it begins with them, the others as the last left them.
pub record Begins (base k : ℕ) (f : Fair) (h : House) : Type 0 where
  pub all : AllStand base f.positions h.place (up_to k (opened h).far h.far) (up_to k (opened h).rest h.rest)
  pub exact : (i : ℕ) (d : Position) → i < 64 → i < k → fair_wants (opened h) i ≡ true → StandsAt base i h (slice_index_or f.positions i d)
  pub mark : Exact base h.mark_over h.mark_far h.mark_rest f.mark
  pub flags : Reads (λ (b : Bool). b) false f.wanted (up_to k (fair_wants (opened h)) h.wanted)
  pub low : f.mark.whole < 1024
  pub least : Candidate (opened h) k f.least

-- A tick has begun: whoever wants it is at the mark or beyond, the mark has moved, and the least far is known.
pub record Begun (f : Fair) (h : House) : Type 0 where
  pub base : ℕ
  pub all : AllStand base f.positions h.place (opened h).far (opened h).rest
  pub exact : (i : ℕ) (d : Position) → i < 64 → fair_wants (opened h) i ≡ true → StandsAt base i h (slice_index_or f.positions i d)
  pub mark : Exact base (ticked (opened h) 0).mark_over (ticked (opened h) 0).mark_far (ticked (opened h) 0).mark_rest f.mark
  pub flags : Reads (λ (b : Bool). b) false f.wanted (fair_wants (opened h))
  pub low : h.mark_far < base + 1024
  pub least : MatchOption f.least (some' 64 (fair_wants (opened h)) ≡ false) (λ i. least_far (opened h) i.index ≡ true)

-- whose tick it is, if a fair task's, is the least far
abbrev pub LeastHas : House → Option TaskId → Type 0
LeastHas h whose = (i : ℕ) → owner_of whose ≡ suc i → 0 < weight_of (h.place i) → least_far (opened h) i ≡ true

-- After the tick, before positions are taken down.
pub record Passing (f : Fair) (h : House) : Type 0 where
  pub base : ℕ
  pub all : AllStand base f.positions h.place h.far h.rest
  pub mark : Exact base h.mark_over h.mark_far h.mark_rest f.mark
  pub flags : Reads (λ (b : Bool). b) false f.wanted h.wanted
