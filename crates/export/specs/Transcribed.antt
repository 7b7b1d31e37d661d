-- What a script's player wrote into a lent slice: a text that the rules allow, with the rest of the slice as it was.
-- Assumes nothing.
use Rattle.std.specs.Prelude.{◌≡◌, ℕ, ◌≤◌, List, ◌∷◌, ◌++◌, length, take, drop}
use Rattle.player.specs.Evening.{Allowed}
use Rattle.export.specs.declared.accounted.Accounted.{Accounted}
use Rattle.export.specs.declared.transcript.Transcript.{Transcript}

-- What an account is made from, in numbers: who lent the room, how long it is, and what stood in it.
abbrev pub origin : (lender : ℕ) (room : List ℕ) → List ℕ
origin lender room = lender ∷ length room ∷ room

-- All that an account took: what it is made from, then what was written. Behind that the room is as it was.
pub record Took (t : Accounted) (all : List ℕ) : Type 0 where
  pub before : List ℕ
  pub written : all ≡ origin t.room.ghost_name before ++ take t.len t.room.now
  pub fits : t.len ≤ length before
  pub rest : drop t.len t.room.now ≡ drop t.len before
  pub size : length t.room.now ≡ length before

-- A transcript as an account.
abbrev pub accounted : Transcript → Accounted
accounted t = record { room = t.room; len = t.len }

-- The transcript's first bytes are a text that the rules allow for the script; the rest is as it was.
pub record Transcribed (script before after : List ℕ) (written : ℕ) : Type 0 where
  pub allowed : Allowed script (take written after)
  pub fits : written ≤ length before
  pub rest : drop written after ≡ drop written before
  pub len : length after ≡ length before
