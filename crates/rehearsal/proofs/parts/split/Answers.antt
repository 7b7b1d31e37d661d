-- The text is cut where the byte first stands.
use Rattle.std.proofs.Common.{◌≡◌, Some, None, rules, arith}
use borrow.Author.Tests.{tests}
use Rattle.std.proofs.lemmas.Iterator.{IsFirst-from_position, YieldsList-from_slice}
use Rattle.rehearsal.proofs.Cutting.{cut_at, cut-nowhere}
use Rattle.rehearsal.proofs.parts.split.Goals as goal

pub returns-in-Some : goal.returns-in-Some
returns-in-Some c =
    let p = IsFirst-from_position _ _ (Some c.in-Some.end) (λ b. b ≡ c.args.by) (λ b. b ≡ c.args.by → ⊥) c.in-Some.ensures.ran (YieldsList-from_slice c.args.text.now cc) (λ x q k. search (rules, tests)) (λ x q k. search (rules, tests)) in
    cut_at c.args.by c.args.text.now c.in-Some.end p.0 (p.1 0) (λ k m. p.2 k 0 (omega arith) m)

pub returns-in-None : goal.returns-in-None
returns-in-None c =
    let p = IsFirst-from_position _ _ None (λ b. b ≡ c.args.by) (λ b. b ≡ c.args.by → ⊥) c.in-None.ensures.ran (YieldsList-from_slice c.args.text.now cc) (λ x q k. search (rules, tests)) (λ x q k. search (rules, tests)) in
    cut-nowhere c.args.by c.args.text.now (λ k m. p k 0 (omega arith) m)
