use Rattle.std.proofs.Common.{◌≡◌, sym, ap, ◌∙◌, arith}
use Rattle.sched.specs.declared.tasks.Slot.TheVariants as slot
use Rattle.sched.specs.House.{windowed}
use Rattle.sched.specs.Stores.{Reads, place_of, window_of, shut}
use Rattle.sched.proofs.Upto.{upto, upto-here, upto-set, upto_all, reads-past}
use Rattle.sched.proofs.Passing.{begin-past}
use Rattle.sched.proofs.reserved.Reserved.begin.Goals as goal

pub loop-i-preserved : goal.loop-i-preserved
loop-i-preserved c h slots asks windows =
    let n = c.loop-i.i-iterator.next in
    let here = c.in-Some.ensures.steps.0 in
    let inv = c.loop-i.invariant h slots asks windows in
    let told = c.begun.ensures h slots asks (upto-here (windowed h).window h.window window_of shut c.loop-i.self.windows n c.in-Some.i.index here inv) in
    rw c.in-Some.ensures.steps.1 (upto-set (windowed h).window h.window window_of shut c.loop-i.self.windows n c.index.result c.begun.result (c.index.ensures.value ∙ here) (omega (arith, here, c.in-Some.i.within)) (told ∙ ap (windowed h).window (sym c.index.ensures.value)) inv)

pub returns : goal.returns
unfolding place_of window_of
returns c h slots asks windows =
    let e : c.loop-i.i-iterator.next ≡ 64 = c.in-None.ensures.steps.0 in
    let inv : Reads window_of shut c.loop-i.self.windows (upto 64 (windowed h).window h.window) = rw e at (c.loop-i.invariant h slots asks windows) in
    upto_all (windowed h).window h.window window_of shut c.loop-i.self.windows 64
    (λ k l. begin-past h k (reads-past place_of slot.Free slots k l) (reads-past window_of shut windows k l)) inv
