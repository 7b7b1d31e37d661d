-- The player writes behind what stood there before, whatever that was.
use Rattle.std.proofs.Common.{refl}
use Rattle.rehearsal.proofs.scene.write_answers.Goals as goal

pub returns : goal.returns
returns c =
    let p = c.in_ok-play.ensures refl c.args.written.now.text.items refl in
    (p.text, p.allowed, p.taken)
