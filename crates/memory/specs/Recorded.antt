-- What a recorder holds: the steps of its script, the entries of its log, the house that these come to, and the room that is left.
-- Assumes nothing.
use Rattle.std.specs.Prelude.{◌≡◌, ℕ, ◌+◌, ◌-◌, min, List, map, length, take, drop, slice_set}
use Rattle.sched.specs.House.{House, empty}
use Rattle.memory.specs.declared.entry.Entry.{Entry}
use Rattle.memory.specs.declared.entry.Step.{Step}
use Rattle.memory.specs.declared.lent.LentRecorder.{LentRecorder}
use Rattle.memory.specs.declared.recorder.Recorder.{Recorder}
use Rattle.memory.specs.Run.{outcome}
use Rattle.memory.specs.Played.{Played}

abbrev pub script_of : Recorder → List Step
script_of w = w.script.items

abbrev pub entries_of : Recorder → List Entry
entries_of w = w.log.items

abbrev pub house_of : {S E : Type 0} → (E → Entry) → LentRecorder S E → House
house_of entry w = outcome empty (take w.used (map entry w.log.now))

abbrev pub room_in : {S E : Type 0} → LentRecorder S E → ℕ
room_in w = length w.log.now - w.used

-- One entry more in the lent log, which is lent as it was.
pub record Wrote {S E : Type 0} (entry : E → Entry) (from to : LentRecorder S E) (e : Entry) : Type 0 where
  pub written : E
  pub says : entry written ≡ e
  pub log : to.log.now ≡ slice_set from.log.now from.used written
  pub used : to.used ≡ from.used + 1
  pub script : to.script.now ≡ from.script.now
  pub lender : to.log.ghost_name ≡ from.log.ghost_name

-- The script was played into the log: so many turns, or as many as there were steps and room for.
pub record Ended {S E : Type 0} (step : S → Step) (entry : E → Entry) (from to : LentRecorder S E) (many : ℕ) : Type 0 where
  pub used : to.used ≡ min many (min (length from.script.now) (length from.log.now))
  pub played : Played (map step from.script.now) (map entry from.log.now) (map entry to.log.now) to.used
  pub rest : drop to.used to.log.now ≡ drop to.used from.log.now
  pub len : length to.log.now ≡ length from.log.now
  pub lender : to.log.ghost_name ≡ from.log.ghost_name
