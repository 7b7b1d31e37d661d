-- Who stands in no row is put last.
use Rattle.std.proofs.Common.{[], ◌∷◌, ◌++◌, refl, subst}
use Rattle.queues.specs.Rings as queue
use Rattle.sched.specs.House.{put}
use Rattle.sched.proofs.locks.Locks.wait.Goals as goal

pub returns : goal.returns
returns c = record {
  owners = refl;
  rows = λ f k free.
      let pushed = c.push_back-pushed.ensures.after f k in
      subst (λ m. queue.Holds c.push_back-pushed.new.self (put m (f m ++ (c.args.i.index ∷ [])) f)) c.from.ensures (pushed.after (pushed.free free));
}
