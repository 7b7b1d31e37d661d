-- What the number of the first step that isn't good says: there is one, and all is refused, or there is none.
use Rattle.std.proofs.Common.{ℕ, ◌<◌, ◌≤◌, List, length, sym, refl, ◌∙◌, arith}
use Rattle.std.proofs.lemmas.Bool.{false≢true}
use Rattle.export.specs.declared.wire.WireEntry.{WireEntry}
use Rattle.export.specs.declared.wire.WireStep.{WireStep}
use Rattle.export.specs.Kept.{AllGood, FirstBad, Refused}

pub refused : (steps : List WireStep) (log : List WireEntry) (at : ℕ) → FirstBad steps at → at < length steps → Refused steps log log 18446744073709551615
refused steps log at first l = record { bad = λ g. false≢true (sym (first.here l) ∙ g at l); says = refl; same = refl }

pub all_good : (steps : List WireStep) (at : ℕ) → FirstBad steps at → length steps ≤ at → AllGood steps
all_good steps at first l = λ k m. first.before k (omega arith)
