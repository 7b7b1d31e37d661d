-- The owners that are read are those of the house.
use Rattle.std.proofs.Common.{refl, suc, eqb, None, ap, ◌∙◌}
use Rattle.sched.proofs.Owners.{same-owner, any-below}
use Rattle.sched.proofs.locks.Locks.owns_any.Goals as goal

pub returns : goal.returns
returns c h k =
    let i = c.args.i in
    c.contains.ensures.value ∙ any-below _ _ None 64 c.args.self.now.owners k.owners.len (λ m l. same-owner _ (λ a b. refl) _ i ∙ ap (λ n. eqb n (suc i.index)) (k.owners.at m))
