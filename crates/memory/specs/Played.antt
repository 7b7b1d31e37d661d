-- A script played into a log: what comes next, and what the log holds in the end.
-- Assumes nothing.
use Rattle.std.specs.Prelude.{◌≡◌, ℕ, ◌<◌, ◌≤◌, min, List, map, length, take, drop, slice_index_or}
use Rattle.sched.specs.declared.Next.{Next}
use Rattle.sched.specs.declared.Next.TheVariants as next
use Rattle.memory.specs.declared.entry.Entry.{Entry}
use Rattle.memory.specs.declared.entry.Step.{Step}
use Rattle.memory.specs.declared.entry.Step.TheVariants.{Tick, Calls}
use Rattle.memory.specs.Run.{IsRun, Follows}

-- a step as what comes next
abbrev pub next_of : Step → Next
next_of Tick = next.Tick
next_of (Calls c) = next.Calls c

-- With n entries written, of which there is room for so many, what comes next: the script's next step if there is one, and room for its entry.
abbrev pub Asks : (script : List Step) (room n : ℕ) → Next → Type 0
Asks script room n (next.Calls c) = (n < length script) × (n < room) × (slice_index_or script n Tick ≡ Calls c)
Asks script room n next.Tick = (n < length script) × (n < room) × (slice_index_or script n Tick ≡ Tick)
Asks script room n next.Over = min (length script) room ≤ n

-- The log's first entries are a legal run from the empty house, each answers its step of the script, and the rest is as it was.
pub record Played (script : List Step) (before after : List Entry) (written : ℕ) : Type 0 where
  pub runs : IsRun (take written after)
  pub answers : Follows script (take written after)
  pub rest : drop written after ≡ drop written before
  pub len : length after ≡ length before

-- The same of what stands for steps and entries: as many as there are and have room, and the rest is as it was.
pub record PlayedAs {S E : Type 0} (step : S → Step) (entry : E → Entry) (script : List S) (before after : List E) (written : ℕ) : Type 0 where
  pub many : written ≡ min (length script) (length before)
  pub played : Played (map step script) (map entry before) (map entry after) written
  pub rest : drop written after ≡ drop written before
  pub len : length after ≡ length before
