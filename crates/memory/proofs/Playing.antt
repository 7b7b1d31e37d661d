-- A script on its way into a log: what is written so far, and one entry more.
use Rattle.std.proofs.Common.{◌≡◌, ℕ, ◌+◌, ◌<◌, ◌≤◌, T, List, length, get_or, take, drop, set, sym, refl, ap, ◌∙◌, subst, arith, length-set}
use Rattle.std.proofs.lemmas.List.{length-take-le, take_more_set, drop-set-lt, drop-drop, map-id}
use Rattle.sched.specs.House.{empty}
use Rattle.memory.specs.declared.entry.Entry.{Entry}
use Rattle.memory.specs.declared.entry.Step.{Step}
use Rattle.memory.specs.declared.entry.Step.TheVariants.{Tick}
use Rattle.memory.specs.Run.{Answers, Follows, none, allowed, legal, outcome}
use Rattle.memory.specs.Played.{Played, PlayedAs}
use Rattle.memory.proofs.Runs.{legal-push, legal-run, follows-push}

pub record Playing (script : List Step) (before log : List Entry) (used : ℕ) : Type 0 where
  pub within : used ≤ length script
  pub room : used ≤ length log
  pub len : length log ≡ length before
  pub lawful : T (legal empty (take used log))
  pub follows : Follows script (take used log)
  pub rest : drop used log ≡ drop used before

-- nothing is written yet
pub playing-none : (script : List Step) (log : List Entry) (used : ℕ) → used ≡ 0 → Playing script log log used
unfolding legal
playing-none script log used e =
    subst (Playing script log log) (sym e)
    (record { within = omega arith; room = omega arith; len = refl; lawful = tt; follows = none; rest = refl })

drop-one-more : (used : ℕ) (xs ys : List Entry) → drop used xs ≡ drop used ys → drop (used + 1) xs ≡ drop (used + 1) ys
drop-one-more used xs ys e = sym (drop-drop 1 used xs) ∙ ap (drop 1) e ∙ drop-drop 1 used ys

-- one more entry, which the rules allow and which answers the script's next step
pub playing-more : (script : List Step) (before log : List Entry) (used : ℕ) (e : Entry) → Playing script before log used → used < length script → used < length log → Answers (get_or script used Tick) e →
    T (allowed (outcome empty (take used log)) e) → Playing script before (set log used e) (used + 1)
playing-more script before log used e p more room answers fits =
    record {
      within = omega arith;
      room = rw length-set (omega arith);
      len = length-set log used e ∙ p.len;
      lawful = rw (take_more_set log used e room) (legal-push empty (take used log) e p.lawful fits);
      follows = rw (take_more_set log used e room) (follows-push script (take used log) e Tick p.follows (rw written more) (rw written answers));
      rest = drop-set-lt (used + 1) log used e (omega arith) ∙ drop-one-more used log before p.rest;
    }
  where
    written : length (take used log) ≡ used
    written = length-take-le used log p.room

pub playing-done : (script : List Step) (before log : List Entry) (used : ℕ) → Playing script before log used → Played script before log used
playing-done script before log used p =
    record { runs = legal-run empty (take used log) p.lawful; answers = p.follows; rest = p.rest; len = p.len }

-- What stands for steps and entries may be these themselves.
pub played-itself : (script : List Step) (before after : List Entry) (written : ℕ) → PlayedAs (λ s. s) (λ e. e) script before after written → Played script before after written
played-itself script before after written p = simp map-id at p.played
