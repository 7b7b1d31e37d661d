-- So many of the counts are written, each in at most 21 bytes.
use Rattle.std.proofs.Common.{◌+◌, ◌*◌, ◌≤◌, length, take}
use Rattle.script.specs.Printed.{pending, Wrote}
use Rattle.script.specs.Text.{counts_text}
use Rattle.script.proofs.page.Page.had.Given as goal

abbrev pub invariant-loop-count : goal.invariant-loop-count
invariant-loop-count l =
    length (pending l.initial.self) ≤ 63491 → Wrote l.initial.self l.self (counts_text (take l.count-index l.counts)) × (length (pending l.self) ≤ length (pending l.initial.self) + 21 * l.count-index)
