use Rattle.std.proofs.Common.{◌≡◌, Bool, false, replicate, rules}
use Rattle.sched.specs.House.{wants}
use Rattle.sched.specs.Stores.{Reads}
use Rattle.sched.proofs.Arrays.{reads-replicate}
use Rattle.sched.proofs.Upto.{upto, upto-none, upto_all}
use Rattle.sched.proofs.Seeing.{past-wants}
use Rattle.sched.proofs.wants.Wants.now.Goals as goal

pub loop-i-init : goal.loop-i-init
loop-i-init c h seen =
    let e : c.into_iter-i-iterator.result.next ≡ 0 = search rules in
    rw e (upto-none (wants h) (λ _. false) (λ (b : Bool). b) false (replicate 64 false) (reads-replicate (λ (b : Bool). b) false))

pub returns : goal.returns
returns c h seen =
    let e : c.loop-i.i-iterator.next ≡ 64 = c.in-None.ensures.steps.0 in
    let inv : Reads (λ (b : Bool). b) false c.loop-i.flags (upto 64 (wants h) (λ _. false)) = rw e at (c.loop-i.invariant h seen) in
    upto_all (wants h) (λ _. false) (λ (b : Bool). b) false c.loop-i.flags 64 (past-wants h c.args.tasks.now c.args.locks.now seen) inv
