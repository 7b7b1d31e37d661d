-- What order among positions can be relied on, and where a step leads in it.
-- Wholes are uncapped here: the laws of steps hold of the code's positions where the result is short of the cap.
use Rattle.std.specs.Prelude.{◌≡◌, ℕ, ◌-◌, ◌<◌, ◌≤◌, true, false}
use Rattle.virtual_time.specs.Positions.{less_far, ticked_far, ticked_rest, joined_far, joined_rest, made_far, made_rest}

-- THE ORDER. No position is behind itself.
abbrev pub BehindIsIrreflexive : Type 0
BehindIsIrreflexive = (f r o : ℕ) → less_far f r o f r o ≡ false

-- Who is behind one that is behind a third is behind the third.
abbrev pub BehindIsTransitive : Type 0
BehindIsTransitive = (f r o g s p h t q : ℕ) → less_far f r o g s p ≡ true → less_far g s p h t q ≡ true → less_far f r o h t q ≡ true

-- Who is not behind one that is not behind a third is not behind the third, where weights are positive.
abbrev pub NotBehindIsTransitive : Type 0
NotBehindIsTransitive = (f r o g s p h t q : ℕ) → 0 < p → less_far f r o g s p ≡ false → less_far g s p h t q ≡ false → less_far f r o h t q ≡ false

-- Taking the same wholes off both leaves the order as it was.
abbrev pub LoweringKeepsOrder : Type 0
LoweringKeepsOrder = (f r o g s p by : ℕ) → by ≤ f → by ≤ g → less_far (f - by) r o (g - by) s p ≡ less_far f r o g s p

-- STEPS, from a position of positive weight. A tick leads beyond it.
abbrev pub AdvanceIsBeyond : Type 0
AdvanceIsBeyond = (f r o : ℕ) → 0 < o → less_far f r o (ticked_far f r o) (ticked_rest r o) o ≡ true

-- Who joins it is not behind it.
abbrev pub CeilingIsNotBehind : Type 0
CeilingIsNotBehind = (f r o w : ℕ) → 0 < o → less_far (joined_far f r o w) (joined_rest r o w) w f r o ≡ false

-- Who is made is beyond it.
abbrev pub MadeIsBeyond : Type 0
MadeIsBeyond = (f r o w : ℕ) → 0 < o → less_far f r o (made_far f r o w) (made_rest r o w) w ≡ true
