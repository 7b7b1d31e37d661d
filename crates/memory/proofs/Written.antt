-- A lent log: where a step is handed out there is room for its entry; one entry more, the house that it comes to, and the room that is left.
use Rattle.std.proofs.Common.{◌≡◌, ℕ, ◌+◌, ◌-◌, ◌<◌, T, List, map, length, take, set, get_or, ap, ◌∙◌, arith, length-set}
use lib.ListN.{length-map}
use lib.Seq.{map-set}
use Rattle.std.proofs.lemmas.List.{take_more_set}
use Rattle.sched.specs.declared.Next.{Next}
use Rattle.sched.specs.declared.Next.TheVariants as next
use Rattle.sched.specs.House.{empty, goes_on'}
use Rattle.memory.specs.declared.entry.Entry.{Entry}
use Rattle.memory.specs.declared.entry.Step.{Step}
use Rattle.memory.specs.declared.entry.Step.TheVariants.{Tick, Calls}
use Rattle.memory.specs.declared.lent.LentRecorder.{LentRecorder}
use Rattle.memory.specs.Run.{entered, outcome}
use Rattle.memory.specs.Played.{Asks, next_of}
use Rattle.memory.specs.Recorded.{house_of, room_in, Wrote}
use Rattle.memory.proofs.Runs.{outcome-push}

-- what goes on has room
pub asks-room : (script : List Step) (room n : ℕ) (r : Next) → Asks script room n r → T (goes_on' r) → 0 < room - n
unfolding goes_on'
asks-room script room n (next.Calls c) a t = omega arith
asks-room script room n next.Tick a t = omega arith
asks-room script room n next.Over a t = absurd t

-- the script's next step is what comes next, where there is room
pub asks-next : (script : List Step) (room n : ℕ) (s : Step) → n < length script → n < room → get_or script n Tick ≡ s → Asks script room n (next_of s)
asks-next script room n Tick more fits e = (more, fits, e)
asks-next script room n (Calls c) more fits e = (more, fits, e)

module _ {S E : Type 0} (entry : E → Entry) (from to : LentRecorder S E) (e : Entry) (wrote : Wrote entry from to e) where
  -- the entries are as they were, with one more
  pub written_log : map entry to.log.now ≡ set (map entry from.log.now) from.used e
  written_log = ap (map entry) wrote.log ∙ map-set entry from.log.now from.used wrote.written ∙ ap (set (map entry from.log.now) from.used) wrote.says

  pub written-house : 0 < room_in from → house_of entry to ≡ entered (house_of entry from) e
  written-house room =
      let l : from.used < length (map entry from.log.now) = rw (length-map from.log.now entry) (omega arith) in
      rw (wrote.used, written_log) (ap (outcome empty) (take_more_set (map entry from.log.now) from.used e l) ∙ outcome-push empty (take from.used (map entry from.log.now)) e)

  pub written-room : 0 < room_in from → room_in to + 1 ≡ room_in from
  written-room room = rw (wrote.used, wrote.log) (rw length-set (omega arith))
