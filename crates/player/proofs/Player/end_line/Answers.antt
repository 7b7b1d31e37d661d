-- A line that is no command is answered by its number.
use Rattle.std.proofs.Common.{sym, refl, ◌∙◌}
use Rattle.player.proofs.Sessions.{performed-bad}
use Rattle.player.proofs.Player.end_line.Goals as goal

pub returns-in-None : goal.returns-in-None
returns-in-None g c =
    λ ok e l xs at printed.
    performed-bad g.S.Sink.took c.args.self.now _ c.args.out.now _ e l l l xs at printed (sym (c.command-asked.ensures l at.line) ∙ c.in-None.is) refl c.saturating_add-self.ensures c.new-self.ensures
    (c.bad_line.ensures ok)
