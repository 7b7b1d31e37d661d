-- So many calls and ticks are chosen, and nothing is printed.
use Rattle.std.proofs.Common.{◌≡◌, ℕ, List}
use Rattle.player.specs.Session.{Session}
use Rattle.player.specs.Standing.{At, Choosing}
use Rattle.player.proofs.Player.any.Given as goal

abbrev pub invariant-loop-k : goal.invariant-loop-k
invariant-loop-k l =
    ((e : Session) (rest : List ℕ) → At l.initial.self e rest → Choosing l.seed l._k l.generator.state e l.self rest) × (l.self.printer ≡ l.initial.self.printer)
