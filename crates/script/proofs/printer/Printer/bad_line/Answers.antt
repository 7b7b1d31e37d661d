-- The text, and then the end of the line.
use Rattle.script.specs.Text.{bad_line_text}
use Rattle.script.proofs.Pages.{printed_line}
use Rattle.script.proofs.printer.Printer.bad_line.Goals as goal

pub returns : goal.returns
returns g c =
    λ ok.
    printed_line g.S.Sink.took c.args.out.now c.end_line.new.out c.args.self.now.page c.bad_line.new.self c.end_line.new.self (bad_line_text c.args.number)
    (c.bad_line.ensures.text c.args.self.now.room) (c.end_line.ensures.printed ok (c.bad_line.ensures.room c.args.self.now.room))
