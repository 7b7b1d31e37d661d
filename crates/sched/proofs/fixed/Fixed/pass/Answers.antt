use Rattle.std.proofs.Common.{◌≡◌, ℕ, List, Some, None, Option, refl}
use Rattle.quantities.specs.Ids.{TaskId}
use Rattle.sched.specs.House.{Place}
use Rattle.sched.specs.Turns.{turn_after}
use Rattle.sched.specs.Stores.{owner_of}
use Rattle.sched.proofs.TurnKept.{ranks, passed-moved}
use Rattle.sched.proofs.fixed.Fixed.pass.Goals as goal

pub returns-in-Some : goal.returns-in-Some
unfolding owner_of
returns-in-Some c place turn h once =
    rw c.in-Some.is
    (passed-moved place turn c.args.self.now.turn c.move_to_back-moved.new.self c.in-Some.i.index c.move_to_back-moved.result once h
    (c.move_to_back-moved.ensures.after (ranks place turn) h) c.move_to_back-moved.ensures.same)

-- a tick that is nobody's moves nobody
nobody : (r : Option TaskId) (place : ℕ → Place) (turn : List ℕ) → ((i : TaskId) → r ≡ Some i → ⊥) → turn_after (owner_of r) place turn ≡ turn
unfolding owner_of
nobody None place turn none = refl
nobody (Some i) place turn none = absurd (none i refl)

pub returns-in_default : goal.returns-in_default
returns-in_default c place turn h once = rw (nobody c.args.whose place turn c.in_default.not-Some) h
