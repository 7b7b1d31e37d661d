-- With or without a last line that lacks its newline.
use Rattle.std.proofs.Common.{◌++◌, sym, refl, ◌∙◌}
use Rattle.player.proofs.Scripts.{played-whole, played-last}
use Rattle.player.proofs.Player.finish.Goals as goal

pub returns-then-not-is_begun : goal.returns-then-not-is_begun
returns-then-not-is_begun g c =
    λ ok before script so.
    played-whole g.S.Sink.took c.args.self.now
    (record { theatre = c.args.self.now.theatre; printer = c.flush.new.self; line = c.args.self.now.line; lines = c.args.self.now.lines }) c.args.out.now c.flush.new.out before script so
    (sym (c.is_begun.ensures so.rest so.at.line) ∙ c.if-not-is_begun.true) c.flush.ensures.empty (c.flush.ensures.printed ok)

pub returns : goal.returns
returns g c =
    λ ok before script so.
    played-last g.S.Sink.took c.args.self.now c.end_line.new.self
    (record { theatre = c.end_line.new.self.theatre; printer = c.flush-2.new.self; line = c.end_line.new.self.line; lines = c.end_line.new.self.lines }) c.args.out.now c.end_line.new.out c.flush-2.new.out before
    script so (sym (c.is_begun.ensures so.rest so.at.line) ∙ c.if-not-is_begun.false)
    (c.in_ok-end_line.ensures refl so.evening so.rest (before ++ so.text) so.at so.printed) c.flush-2.ensures.empty (c.flush-2.ensures.printed ok)
