-- A newline ends the line; any other byte is one more of it.
use Rattle.std.proofs.Common.{ℕ, [], ◌∷◌, ◌++◌, sym, refl, subst}
use Rattle.std.proofs.lemmas.Bool.{ne_eqb}
use Rattle.player.specs.Standing.{Playing}
use Rattle.player.proofs.Scripts.{playing-line, playing-byte}
use Rattle.player.proofs.Player.take.Goals as goal

pub returns-then-byte-eq10 : goal.returns-then-byte-eq10
returns-then-byte-eq10 g c =
    λ ok before script so.
    subst (λ (b : ℕ). Playing g.S.Sink.took c.end_line.new.self c.end_line.new.out before (script ++ (b ∷ []))) (sym c.if-byte-eq10.true)
    (playing-line g.S.Sink.took c.args.self.now c.end_line.new.self c.args.out.now c.end_line.new.out before script so (c.end_line.ensures ok so.session so.rest (before ++ so.text) so.at so.printed))

pub returns : goal.returns
returns g c =
    λ ok before script so.
    playing-byte g.S.Sink.took c.args.self.now _ c.args.out.now before script c.args.byte so (ne_eqb c.args.byte 10 c.if-byte-eq10.false) refl refl refl c.push.ensures
