-- Each tick is printed after the one before.
use Rattle.std.proofs.Common.{◌≡◌, ℕ, refl, subst, arith}
use Rattle.player.specs.Standing.{Ticked}
use Rattle.player.proofs.Sessions.{ticked-none, ticked-more}
use Rattle.player.proofs.Player.ticks.Goals as goal

pub loop-k-init : goal.loop-k-init
loop-k-init g c = λ e rest xs at printed. ticked-none g.S.Sink.took c.args.self.now c.args.out.now e rest xs at printed

pub loop-k-preserved : goal.loop-k-preserved
loop-k-preserved g c =
    λ e rest xs at printed.
    ticked-more g.S.Sink.took c.loop-k._k e c.loop-k.self _ c.loop-k.out _ rest xs c.tick-whose.result.0 c.tick-whose.result.1 (c.loop-k.invariant e rest xs at printed) c.tick-whose.ensures.may
    c.tick-whose.ensures.had refl refl (c.in_ok-tick.ensures refl)

pub returns : goal.returns
returns g c =
    let n : c.loop-k._k ≡ c.args.many = omega arith in
    λ _ e rest xs at printed. subst (λ (k : ℕ). Ticked g.S.Sink.took k e c.loop-k.self c.loop-k.out rest xs) n (c.loop-k.invariant e rest xs at printed)
