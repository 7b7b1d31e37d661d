-- One piece more was read, and taken.
use Rattle.std.proofs.Common.{rules, of_calls, refl, [], ◌∷◌, ◌++◌, take, Ok}
use Rattle.std.specs.Fn.{CalledAt}
use Rattle.std.proofs.lemmas.Fn.{FoldsTo-push}
use Rattle.console.proofs.Reading.{one-more}
use Rattle.console.proofs.input.each_piece.Goals as goal

pub loop-k-preserved : goal.loop-k-preserved
loop-k-preserved g c =
    let i = c.loop-k.invariant in
    let x = take c.in_ok-n.n c.read.new.buf in (
      search (rules, of_calls),
      search rules,
      (
        i.2.0 ++ (x ∷ []),
        one-more _ _ _ i.2.0 x i.2.1 c.in_ok-n.ensures.bytes.0,
        FoldsTo-push (λ p y q. CalledAt g.F.FnMut p y (Ok tt) q) c.args.take i.2.0 c.loop-k.take x c.take.new.self i.2.2 (record { shown = _; shows = refl; called = c.in_ok-take.ensures }),
      ),
    )
