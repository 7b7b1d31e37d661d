use Rattle.std.proofs.Common.{refl, suc, eqb, ap, ◌∙◌}
use Rattle.sched.proofs.Owners.{same-owner}
use Rattle.sched.proofs.locks.Locks.is_owner.Goals as goal

pub returns : goal.returns
returns c h k =
    c.eq.ensures ∙ same-owner _ (λ a b. refl) c.owner.result c.args.i ∙ ap (λ n. eqb n (suc c.args.i.index)) (c.owner.ensures h k)
