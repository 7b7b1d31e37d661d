-- Only a fair task has a weight; it stands one part beyond the mark.
use Rattle.std.proofs.Common.{◌≡◌, ap, subst, inl, inr, arith}
use Rattle.sched.specs.House.{weight_of}
use Rattle.sched.specs.Stores.{kind_of, task_place, StandsBeyond}
use Rattle.sched.proofs.positions.Standing.{stands-made}
use Rattle.sched.proofs.fair.Fair.beginning.Goals as goal

pub returns-in-Reserved : goal.returns-in-Reserved
unfolding kind_of weight_of
returns-in-Reserved c base w e heavy _ =
    let none : ◌≡◌ 0 w = elim c.in-Reserved.is [ inl r ↦ subst (λ p. weight_of (task_place p) ≡ w) r.1 e | inr r ↦ subst (λ p. weight_of (task_place p) ≡ w) r.1 e ] in absurd (omega arith)

pub returns-in-Fair : goal.returns-in-Fair
unfolding kind_of weight_of
returns-in-Fair c base w e heavy low =
    let weight : c.in-Fair.weight.value ≡ w = subst (λ p. weight_of (task_place p) ≡ w) c.in-Fair.is e in
    let mark = c.args.self.now.mark in
    subst (λ v. StandsBeyond base v mark c.beyond.result) weight
    (stands-made base c.in-Fair.weight.value mark c.beyond.result (omega arith) c.in-Fair.weight.within low (ap (λ v. v.value) c.beyond.ensures.weight) c.beyond.ensures.whole c.beyond.ensures.rest)
