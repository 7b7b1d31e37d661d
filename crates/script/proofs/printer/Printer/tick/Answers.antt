-- The text, and then the end of the line.
use Rattle.script.specs.Text.{tick_text}
use Rattle.script.proofs.Pages.{printed_line}
use Rattle.script.proofs.printer.Printer.tick.Goals as goal

pub returns : goal.returns
returns g c =
    λ ok.
    printed_line g.S.Sink.took c.args.out.now c.end_line.new.out c.args.self.now.page c.tick.new.self c.end_line.new.self (tick_text c.args.whose c.args.runs)
    (c.tick.ensures.text c.args.self.now.room) (c.end_line.ensures.printed ok (c.tick.ensures.room c.args.self.now.room))
