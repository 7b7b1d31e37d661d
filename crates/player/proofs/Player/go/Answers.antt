-- What was chosen is a call or a tick.
use Rattle.std.proofs.Common.{◌≡◌, refl, subst}
use Rattle.sched.specs.declared.Next.{Next}
use Rattle.script.specs.Any.{drawn, step}
use Rattle.player.proofs.Sessions.{choosing-call, choosing-tick, never-over}
use Rattle.player.proofs.Player.go.Goals as goal

pub returns-in-Calls : goal.returns-in-Calls
returns-in-Calls c =
    record {
      goes =
          λ seed n x y e rest so draws.
          choosing-call seed n x y e c.args.self.now _ rest so c.in-Calls.call c.call-answer.result (subst (λ (k : Next). drawn k y ≡ step x) c.in-Calls.is draws) c.call-answer.ensures.answered c.call-answer.ensures.had refl refl;
      silent = refl;
    }

pub returns-in-Tick : goal.returns-in-Tick
returns-in-Tick c =
    record {
      goes =
          λ seed n x y e rest so draws.
          choosing-tick seed n x y e c.args.self.now _ rest so c.tick-tick.result.0 c.tick-tick.result.1 (subst (λ (k : Next). drawn k y ≡ step x) c.in-Tick.is draws) c.tick-tick.ensures.may c.tick-tick.ensures.had refl refl;
      silent = refl;
    }

pub returns-in-Over : goal.returns-in-Over
returns-in-Over c =
    record { goes = λ seed n x y e rest so draws. absurd (never-over x y (subst (λ (k : Next). drawn k y ≡ step x) c.in-Over.is draws)); silent = refl }
