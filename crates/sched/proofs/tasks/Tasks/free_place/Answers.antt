-- The place at which the search stops is the first that is free.
use Rattle.std.proofs.Common.{sym, ap, ◌∙◌, arith}
use Rattle.sched.specs.House.{is_nobody}
use Rattle.sched.specs.Stores.{place_of}
use Rattle.sched.proofs.Bounded.{none_from, some-from, first-unique}
use Rattle.sched.proofs.tasks.Tasks.free_place.Goals as goal

pub returns-then-is_free : goal.returns-then-is_free
returns-then-is_free c =
    let i = c.in-Some.i in
    let at = c.in-Some.ensures.steps in
    let free = ap (λ s. is_nobody (place_of s)) (sym c.slot.ensures) ∙ (sym c.is_free.ensures ∙ c.if-is_free.true) in
    (some-from _ 64 i.index i.within free, sym (first-unique _ 64 i.index i.within free (λ j l. c.loop-i.invariant j (omega (arith, at.0)))))

pub returns : goal.returns
returns c = let end = c.in-None.ensures.steps in none_from _ 64 (λ k l. c.loop-i.invariant k (omega (arith, end.0)))
