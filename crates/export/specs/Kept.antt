-- Steps played into a log of numbers: which of them are good, and what the log holds in the end.
-- Assumes nothing.
use Rattle.std.specs.Prelude.{◌≡◌, ℕ, ◌<◌, ◌≤◌, true, false, List, length, slice_index_or}
use Rattle.memory.specs.Played.{PlayedAs}
use Rattle.export.specs.declared.wire.WireEntry.{WireEntry}
use Rattle.export.specs.declared.wire.WireStep.{WireStep}
use Rattle.export.specs.Wire.{good, no_step, step_of, entry_of}

abbrev pub AllGood : List WireStep → Type 0
AllGood steps = (k : ℕ) → k < length steps → good (slice_index_or steps k no_step) ≡ true

-- the first step that isn't good, or the end
pub record FirstBad (steps : List WireStep) (at : ℕ) : Type 0 where
  pub within : at ≤ length steps
  pub before : (k : ℕ) → k < at → good (slice_index_or steps k no_step) ≡ true
  pub here : at < length steps → good (slice_index_or steps at no_step) ≡ false

-- The log's first entries are a legal run from the empty house that answers the steps one by one, as many as there are and have room; the rest is as it was.
abbrev pub Kept : (steps : List WireStep) (before after : List WireEntry) (written : ℕ) → Type 0
Kept = PlayedAs step_of entry_of

-- A step isn't good, and nothing was played.
pub record Refused (steps : List WireStep) (before after : List WireEntry) (answer : ℕ) : Type 0 where
  pub bad : AllGood steps → ⊥
  pub says : answer ≡ 18446744073709551615
  pub same : after ≡ before
