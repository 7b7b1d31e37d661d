-- From nothing, all of the script, to its end.
use Rattle.std.proofs.Common.{[], refl}
use Rattle.player.proofs.Scripts.{playing-none}
use Rattle.player.proofs.play.Goals as goal

pub returns : goal.returns
returns g c =
    λ ok before taken.
    c.finish.ensures ok before c.args.script.now
    (c.in_ok-feed.ensures.playing refl before [] (playing-none g.S.Sink.took c.new-player.result c.args.out.now before c.new-player.ensures.at c.new-player.ensures.empty taken))
