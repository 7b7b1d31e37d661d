-- The next words meet, or don't, or one of them is missing.
use Rattle.std.proofs.Common.{rules, not, sym, ap, ◌∙◌, ◌&&◌}
use Rattle.rehearsal.specs.Cuts.{left}
use Rattle.rehearsal.specs.Expected.{words_meet}
use Rattle.rehearsal.proofs.Meeting.{next-word, no_words_left, not-not}
use Rattle.rehearsal.proofs.expectation.meets.Goals as goal

pub returns-then-not-is_some_and : goal.returns-then-not-is_some_and
returns-then-not-is_some_and c =
    let e =
    next-word (left c.loop-word.word-iterator) (left c.loop-word.words) (left c.next.new.self) (left c.next-in-loop-word.new.self) c.in-Some.word.now _ c.is_some_and.result _
    c.in-Some.ensures.steps c.next-in-loop-word.ensures.steps c.is_some_and.ensures (λ p q. search rules) in
    sym (e ∙ ap (λ b. b && words_meet (left c.next.new.self) (left c.next-in-loop-word.new.self)) c.if-not-is_some_and.true) ∙ c.loop-word.invariant.2

pub loop-word-preserved : goal.loop-word-preserved
loop-word-preserved c =
    let e =
    next-word (left c.loop-word.word-iterator) (left c.loop-word.words) (left c.next.new.self) (left c.next-in-loop-word.new.self) c.in-Some.word.now _ c.is_some_and.result _
    c.in-Some.ensures.steps c.next-in-loop-word.ensures.steps c.is_some_and.ensures (λ p q. search rules) in
    (tt, tt, sym (e ∙ ap (λ b. b && words_meet (left c.next.new.self) (left c.next-in-loop-word.new.self)) c.if-not-is_some_and.false) ∙ c.loop-word.invariant.2)

pub returns : goal.returns
returns c =
    sym (not-not c.is_none.result)
    ∙ ap not (sym c.is_none.ensures)
    ∙ sym (no_words_left (left c.loop-word.word-iterator) (left c.loop-word.words) (left c.next-2.new.self) c.next-2.result c.in-None.ensures.steps.0 c.next-2.ensures.steps)
    ∙ c.loop-word.invariant.2
