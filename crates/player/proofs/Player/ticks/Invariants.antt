-- So many ticks are printed.
use Rattle.std.proofs.Common.{ℕ, List}
use Rattle.script.specs.Printed.{Printed}
use Rattle.player.specs.Session.{Session}
use Rattle.player.specs.Standing.{At, Ticked}
use Rattle.player.proofs.Player.ticks.Given as goal

abbrev pub invariant-loop-k : goal.invariant-loop-k
invariant-loop-k g l =
    (e : Session) (rest xs : List ℕ) → At l.initial.self e rest → Printed g.S.Sink.took l.initial.out l.initial.self.printer.page xs → Ticked g.S.Sink.took l._k e l.self l.out rest xs
