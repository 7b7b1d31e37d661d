-- Byte by byte; then all that was printed is handed on.
use Rattle.std.proofs.Common.{ℕ, List, ◌++◌, refl, subst, arith}
use Rattle.std.proofs.lemmas.List.{take_all}
use Rattle.player.specs.Standing.{Playing}
use Rattle.player.proofs.Scripts.{playing-on}
use Rattle.player.proofs.Player.feed.Goals as goal

pub returns : goal.returns
returns g c =
    record {
      empty = λ _. c.flush.ensures.empty;
      playing =
          λ ok before script so.
          playing-on g.S.Sink.took c.loop-byte.self _ c.loop-byte.out _ before (script ++ c.args.bytes.now)
          (subst (λ (t : List ℕ). Playing g.S.Sink.took c.loop-byte.self c.loop-byte.out before (script ++ t)) (take_all c.loop-byte.byte-index c.args.bytes.now (omega arith)) (c.loop-byte.invariant before script so)) refl refl refl
          (c.flush.ensures.printed ok);
    }
