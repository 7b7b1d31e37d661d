-- Each step is the one that is drawn next.
use Rattle.std.proofs.Common.{◌≡◌, refl, ◌∙◌, arith}
use Rattle.player.proofs.Sessions.{choosing-none, chose}
use Rattle.player.proofs.Player.any.Goals as goal

pub loop-k-init : goal.loop-k-init
loop-k-init c = (λ e rest at. choosing-none c.args.seed c.new-generator.result.state c.args.self.now e rest c.new-generator.ensures at, refl)

pub loop-k-preserved : goal.loop-k-preserved
loop-k-preserved c = (
  λ e rest at.
      c.go.ensures.goes c.args.seed c.loop-k._k c.loop-k.generator.state c.next_step-chosen.new.self.state e rest (c.loop-k.invariant.0 e rest at) c.next_step-chosen.ensures,
  c.go.ensures.silent ∙ c.loop-k.invariant.1,
)

pub returns : goal.returns
returns c =
    let n : c.loop-k._k ≡ c.args.many = omega arith in
    record {
      chose = λ e rest at. chose c.args.seed c.loop-k._k c.loop-k.generator.state 0 e c.loop-k.self c.loop-k.self rest (c.loop-k.invariant.0 e rest at) c.args.many n;
      silent = c.loop-k.invariant.1;
    }
