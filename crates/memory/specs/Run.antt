-- A legal run: each call answered as the rules say, each tick one that may be, from a house to the house that they lead to.
-- Assumes nothing.
use Rattle.std.specs.Prelude.{◌≡◌, ℕ, Bool, true, false, ◌&&◌, T, List, [], ◌∷◌, None, Option, ◌==◌}
use Rattle.sched.specs.declared.Call.{Call}
use Rattle.sched.specs.declared.Answer.{Answer}
use Rattle.sched.specs.declared.Answer.TheVariants.{Done, Id, No}
use Rattle.sched.specs.House.{House, empty, calls, may_run, after}
use Rattle.memory.specs.declared.entry.Entry.{Entry}
use Rattle.memory.specs.declared.entry.Entry.TheVariants.{Ran, Called}
use Rattle.memory.specs.declared.entry.Step.{Step}
use Rattle.memory.specs.declared.entry.Step.TheVariants.{Tick, Calls}

-- what stands where nothing was recorded
abbrev pub blank : Entry
blank = Ran None 0

-- from house h the entries lead to house k
pub data Run : House → List Entry → House → Type 0 where
  over : {h : House} → Run h [] h
  called : {h k : House} {es : List Entry} (c : Call) (a : Answer) → a ≡ (calls c h).answer → Run (calls c h).house es k → Run h (Called c a ∷ es) k
  ran : {h k : House} {es : List Entry} (t : Option ℕ) (j : ℕ) → T (may_run h t j) → Run (after h t) es k → Run h (Ran t j ∷ es) k

-- an entry answers a step: a call that call, a tick a tick
pub data Answers : Step → Entry → Type 0 where
  tick : {t : Option ℕ} {j : ℕ} → Answers Tick (Ran t j)
  call : {c : Call} {a : Answer} → Answers (Calls c) (Called c a)

-- the entries answer the script's steps one by one, in order, as far as they go
pub data Follows : List Step → List Entry → Type 0 where
  none : {ss : List Step} → Follows ss []
  more : {s : Step} {ss : List Step} {e : Entry} {es : List Entry} → Answers s e → Follows ss es → Follows (s ∷ ss) (e ∷ es)

-- the house that an entry leaves
unfoldable pub entered : House → Entry → House
entered h (Ran t j) = after h t
entered h (Called c a) = (calls c h).house

-- the house that entries come to
unfoldable pub outcome : House → List Entry → House
outcome h [] = h
outcome h (e ∷ es) = outcome (entered h e) es

-- these entries are a legal run from the empty house
abbrev pub IsRun : List Entry → Type 0
IsRun es = Run empty es (outcome empty es)

-- two answers are the same, as a test
unfoldable pub same_answer : Answer → Answer → Bool
same_answer Done Done = true
same_answer Done (Id n) = false
same_answer Done (No n) = false
same_answer (Id m) Done = false
same_answer (Id m) (Id n) = m == n
same_answer (Id m) (No n) = false
same_answer (No m) Done = false
same_answer (No m) (Id n) = false
same_answer (No m) (No n) = m == n

-- Whether entries are a legal run, as a test, which a type can carry: there is one proof of it at most.
unfoldable pub allowed : House → Entry → Bool
allowed h (Ran t j) = may_run h t j
allowed h (Called c a) = same_answer a (calls c h).answer

unfoldable pub legal : House → List Entry → Bool
legal h [] = true
legal h (e ∷ es) = allowed h e && legal (entered h e) es
