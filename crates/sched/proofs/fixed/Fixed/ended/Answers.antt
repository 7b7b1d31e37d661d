use Rattle.sched.proofs.TurnKept.{ranks, ended-ranks}
use Rattle.sched.proofs.fixed.Fixed.ended.Goals as goal

pub returns : goal.returns
returns c place turn p h other =
    ended-ranks place turn c.args.i.index p c.remove-removed.new.self other (c.remove-removed.ensures.after (ranks place turn) h).after
