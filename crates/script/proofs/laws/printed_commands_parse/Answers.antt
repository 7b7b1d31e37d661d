-- The theorem stands in Parsing.
use Rattle.script.proofs.Parsing.{commands-parse}
use Rattle.script.proofs.laws.printed_commands_parse.Goals as goal

pub returns : goal.returns
returns c = commands-parse
