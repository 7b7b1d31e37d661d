-- The text, and then the end of the line.
use Rattle.script.specs.Text.{answer_text}
use Rattle.script.proofs.Pages.{printed_line}
use Rattle.script.proofs.printer.Printer.answer.Goals as goal

pub returns : goal.returns
returns g c =
    λ ok.
    printed_line g.S.Sink.took c.args.out.now c.end_line.new.out c.args.self.now.page c.answer.new.self c.end_line.new.self (answer_text c.args.answer)
    (c.answer.ensures.text c.args.self.now.room) (c.end_line.ensures.printed ok (c.answer.ensures.room c.args.self.now.room))
