-- What the player wrote, whole, is what is compared.
use Rattle.std.proofs.Common.{◌++◌, ap, ◌∙◌}
use Rattle.rehearsal.specs.Cuts.{cut}
use Rattle.rehearsal.specs.Expected.{first_apart}
use Rattle.rehearsal.proofs.scene.first_line_apart.Goals as goal

pub returns : goal.returns
returns c =
    let p = c.in_ok-write_answers.ensures in
    (p.0, p.1, c.first_difference.ensures ∙ ap (λ t. first_apart 1 (cut 10 c.args.expected.now) (cut 10 t)) (c.bytes.ensures ∙ p.2 ∙ ap (λ s. s ++ p.0) c.new-written.ensures))
