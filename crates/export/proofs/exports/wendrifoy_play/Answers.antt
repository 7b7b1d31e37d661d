-- What was lent has come back as the transcript left it.
use Rattle.std.proofs.Common.{sym, refl, ◌∙◌, inr, rules}
use Rattle.export.specs.Transcribed.{origin}
use Rattle.export.proofs.Transcripts.{took-none, ended, given_back}
use Rattle.export.proofs.exports.wendrifoy_play.Goals as goal

pub returns-in-Ok : goal.returns-in-Ok
returns-in-Ok c =
    let t = c.new-out.result in
    let u = c.play.new.out in
    let e = ended t u c.args.script.now (c.in-Ok.ensures refl (origin t.room.ghost_name t.room.now) (took-none t c.new-out.ensures.len)) in
    let lent = sym c.new-out.ensures.lender ∙ e.lender in
    inr (rw (c.len.ensures, ← c.new-out.ensures.room) (given_back c.args.script.now t.room.now u.room.now u.len e.transcribed (search rules)))
