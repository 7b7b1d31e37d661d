use Rattle.std.proofs.Common.{◌≡◌, false, refl}
use Rattle.quantities.specs.Ids.{Rank}
use Rattle.sched.specs.declared.promise.Promise.{Promise}
use Rattle.sched.specs.declared.promise.Promise.TheVariants as promised
use Rattle.sched.specs.House.{is_fixed}
use Rattle.sched.specs.Stores.{kind_of, task_place}
use Rattle.sched.proofs.TurnKept.{ranks, made-pushed, made_other}
use Rattle.sched.proofs.fixed.Fixed.made.Goals as goal

pub returns-in-Fixed : goal.returns-in-Fixed
returns-in-Fixed c place turn h none =
    made-pushed place turn c.push_back-pushed.new.self c.args.i.index c.from.result.index c.args.promise c.in-Fixed.rank c.push_back-pushed.result c.in-Fixed.is c.from.ensures none
    (c.push_back-pushed.ensures.after (ranks place turn) h)

-- who isn't promised a rank isn't in turn
not-fixed : (p : Promise) → ((k : Rank) → p ≡ promised.Fixed k → ⊥) → is_fixed (task_place p) ≡ false
unfolding kind_of is_fixed
not-fixed (promised.Reserved _) n = refl
not-fixed (promised.Fixed k) n = absurd (n k refl)
not-fixed (promised.Fair _) n = refl

pub returns-in_default : goal.returns-in_default
returns-in_default c place turn h none =
    made_other place turn c.args.i.index (task_place c.args.promise) none c.args.self.now.turn (not-fixed c.args.promise c.in_default.not-Fixed) h
