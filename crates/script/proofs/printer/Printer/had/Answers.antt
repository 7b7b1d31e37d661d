-- The text, and then the end of the line.
use Rattle.script.specs.Text.{had_text}
use Rattle.script.proofs.Pages.{printed_line}
use Rattle.script.proofs.printer.Printer.had.Goals as goal

pub returns : goal.returns
returns g c =
    λ ok.
    printed_line g.S.Sink.took c.args.out.now c.end_line.new.out c.args.self.now.page c.had.new.self c.end_line.new.self (had_text c.args.counts.now)
    (c.had.ensures.text c.args.self.now.room) (c.end_line.ensures.printed ok (c.had.ensures.room c.args.self.now.room))
