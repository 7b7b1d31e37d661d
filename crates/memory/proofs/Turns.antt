-- The turns of a script that is played: each writes the entry that answers the next step, and the scheduler stands for the house after it.
use Rattle.std.proofs.Common.{◌≡◌, ℕ, ◌+◌, ◌<◌, ◌≤◌, min, T, ◌⊎◌, map, length, get_or, take, drop, Option, sym, refl, ap, ◌∙◌, subst, ⊎_elim, arith, length-set}
use lib.ListN.{length-map}
use Rattle.std.proofs.lemmas.List.{drop-set-lt, drop-drop}
use Rattle.sched.specs.declared.Scheduler.{Scheduler}
use Rattle.sched.specs.declared.Call.{Call}
use Rattle.sched.specs.declared.Answer.{Answer}
use Rattle.sched.specs.declared.Next.TheVariants as next
use Rattle.sched.specs.House.{House, empty, calls, may_run, after}
use Rattle.sched.specs.Stores.{Holds}
use Rattle.memory.specs.declared.entry.Entry.{Entry}
use Rattle.memory.specs.declared.entry.Entry.TheVariants.{Ran, Called}
use Rattle.memory.specs.declared.entry.Step.{Step}
use Rattle.memory.specs.declared.entry.Step.TheVariants.{Tick}
use Rattle.memory.specs.declared.lent.LentRecorder.{LentRecorder}
use Rattle.memory.specs.Run.{Answers, tick, call, entered, allowed, outcome}
use Rattle.memory.specs.Played.{Asks}
use Rattle.memory.specs.Recorded.{house_of, Wrote, Ended}
use Rattle.memory.proofs.Runs.{told-allowed, ran-allowed, told-entered, ran-entered}
use Rattle.memory.proofs.Playing.{Playing, playing-none, playing-more, playing-done}
use Rattle.memory.proofs.Written.{written_log, written-house}

-- After n turns: from is the recorder as it began, to as it is.
pub record Turn {S E : Type 0} (step : S → Step) (entry : E → Entry) (from to : LentRecorder S E) (s : Scheduler) (n : ℕ) : Type 0 where
  pub stands : Holds s (house_of entry to)
  pub used : to.used ≡ n
  pub playing : Playing (map step from.script.now) (map entry from.log.now) (map entry to.log.now) to.used
  pub rest : drop to.used to.log.now ≡ drop to.used from.log.now
  pub len : length to.log.now ≡ length from.log.now
  pub script : to.script.now ≡ from.script.now
  pub lender : to.log.ghost_name ≡ from.log.ghost_name

module _ {S E : Type 0} (step : S → Step) (entry : E → Entry) where
  -- before the first, nothing is written and the house is empty
  pub turn-none : (w : LentRecorder S E) (s : Scheduler) → w.used ≡ 0 → Holds s empty → Turn step entry w w s 0
  unfolding outcome
  turn-none w s e holds =
      record {
        stands = subst (λ (n : ℕ). Holds s (outcome empty (take n (map entry w.log.now)))) (sym e) holds;
        used = e;
        playing = playing-none (map step w.script.now) (map entry w.log.now) w.used e;
        rest = refl;
        len = refl;
        script = refl;
        lender = refl;
      }

  module _ (from at : LentRecorder S E) (s : Scheduler) (n : ℕ) (turn : Turn step entry from at s n) where
    -- one more, which writes e
    turn_more : (to : LentRecorder S E) (s' : Scheduler) (e : Entry) → Wrote entry at to e → at.used < length (map step at.script.now) → at.used < length at.log.now →
        Answers (get_or (map step at.script.now) at.used Tick) e → T (allowed (house_of entry at) e) → Holds s' (entered (house_of entry at) e) → Turn step entry from to s' (n + 1)
    turn_more to s' e wrote more room answers fits holds =
        record {
          stands = subst (Holds s') (sym (written-house entry at to e wrote (omega arith))) holds;
          used = wrote.used ∙ ap (λ (k : ℕ). k + 1) turn.used;
          playing = rw (wrote.used, written_log entry at to e wrote)
              (playing-more (map step from.script.now) (map entry from.log.now) (map entry at.log.now) at.used e turn.playing (rw turn.script at more) (rw (length-map at.log.now entry) room) (rw turn.script at answers) fits);
          rest = rw (wrote.used, wrote.log) (drop-set-lt (at.used + 1) at.log.now at.used wrote.written (omega arith) ∙ sym (drop-drop 1 at.used at.log.now) ∙ ap (drop 1) turn.rest ∙ drop-drop 1 at.used from.log.now);
          len = rw wrote.log (length-set at.log.now at.used wrote.written ∙ turn.len);
          script = wrote.script ∙ turn.script;
          lender = wrote.lender ∙ turn.lender;
        }

    -- a call, answered as the rules say
    pub turn-called : (asked to : LentRecorder S E) (s' : Scheduler) (c : Call) (a : Answer) → asked ≡ at → Wrote entry asked to (Called c a) → Asks (map step at.script.now) (length at.log.now) at.used (next.Calls c) →
        ((h : House) → Holds s h → (a ≡ (calls c h).answer) × Holds s' (calls c h).house) → Turn step entry from to s' (n + 1)
    turn-called asked to s' c a same wrote asks says =
        let outcome-is = says (house_of entry at) turn.stands in
        turn_more to s' (Called c a) (subst (λ (w : LentRecorder S E). Wrote entry w to (Called c a)) same wrote) asks.0 asks.1 (subst (λ (x : Step). Answers x (Called c a)) (sym asks.2) call)
        (told-allowed (house_of entry at) c a outcome-is.0) (subst (Holds s') (sym (told-entered (house_of entry at) c a)) outcome-is.1)

    -- a tick that may be
    pub turn-ran : (asked to : LentRecorder S E) (s' : Scheduler) (t : Option ℕ) (j : ℕ) → asked ≡ at → Wrote entry asked to (Ran t j) → Asks (map step at.script.now) (length at.log.now) at.used next.Tick →
        ((h : House) → Holds s h → T (may_run h t j) × Holds s' (after h t)) → Turn step entry from to s' (n + 1)
    turn-ran asked to s' t j same wrote asks says =
        let outcome-is = says (house_of entry at) turn.stands in
        turn_more to s' (Ran t j) (subst (λ (w : LentRecorder S E). Wrote entry w to (Ran t j)) same wrote) asks.0 asks.1 (subst (λ (x : Step). Answers x (Ran t j)) (sym asks.2) tick)
        (ran-allowed (house_of entry at) t j outcome-is.0) (subst (Holds s') (sym (ran-entered (house_of entry at) t j)) outcome-is.1)

    count : (many : ℕ) → n ≤ many → (many ≤ n) ⊎ (min (length (map step at.script.now)) (length at.log.now) ≤ at.used) → at.used ≡ min many (min (length from.script.now) (length from.log.now))
    count many le over =
        let steps = length-map at.script.now step in
        let steps-from = length-map from.script.now step in
        let entries-from = length-map from.log.now entry in
        let e = ap length turn.script in
        let l = turn.len in
        let u = turn.used in
        ⊎_elim {C = at.used ≡ min many (min (length from.script.now) (length from.log.now))} (λ o. omega arith) (λ o. omega arith) over

    -- the turns are over, or the steps, or the room
    pub turn_last : (many : ℕ) → n ≤ many → (many ≤ n) ⊎ (min (length (map step at.script.now)) (length at.log.now) ≤ at.used) → Ended step entry from at many
    turn_last many le over =
        record {
          used = count many le over;
          played = playing-done (map step from.script.now) (map entry from.log.now) (map entry at.log.now) at.used turn.playing;
          rest = turn.rest;
          len = turn.len;
          lender = turn.lender;
        }
