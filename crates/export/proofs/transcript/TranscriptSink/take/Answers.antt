-- What there is room for is written after what was.
use Rattle.std.proofs.Common.{refl, rules}
use Rattle.export.specs.Room.{Grew}
use Rattle.export.specs.Transcribed.{accounted}
use Rattle.export.proofs.Transcripts.{took_more}
use Rattle.export.proofs.transcript.TranscriptSink.take.Goals as goal

pub returns-clause-account : goal.returns-clause-account
returns-clause-account c = λ _ all took.
    let t = c.args.self.now in
    let grew : Grew t.room.now c.write_after.new.room t.len c.args.lines.now c.in_ok-self.field-0 = search rules in
    took_more (accounted t) _ all c.args.lines.now took refl grew
