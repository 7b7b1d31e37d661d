-- Each turn writes the entry that answers the next step; they end with the steps, the room or the turns.
use Rattle.std.proofs.Common.{inl, inr, arith}
use Rattle.memory.proofs.Turns.{turn-none, turn-called, turn-ran, turn_last}
use Rattle.memory.proofs.play.play.Goals as goal
use Rattle.memory.proofs.play.play.Goals.{in-Calls, in-Tick}

pub loop-init : goal.loop-init
loop-init g c = (turn-none g.S.AsStep.step g.E.AsEntry.entry c.args.w.now c.new-s.result c.requires.begins c.new-s.ensures, omega arith)

pub loop-preserved : goal.loop-preserved
loop-preserved g c = (
  elim c.match-next.branch [
    | in-Calls w ↦ rw w.s-is
        (turn-called g.S.AsStep.step g.E.AsEntry.entry c.args.w.now c.loop.w c.loop.s c.loop.counter c.loop.invariant.0 c.next.new.self c.record.new.self w.call.new.self w.in-Calls.c w.call.result
        c.next.ensures.same (rw w.entry-is at c.record.ensures) w.in-Calls.ensures.asks w.call.ensures.answered)
    | in-Tick w ↦ rw w.s-is
        (turn-ran g.S.AsStep.step g.E.AsEntry.entry c.args.w.now c.loop.w c.loop.s c.loop.counter c.loop.invariant.0 c.next.new.self c.record.new.self w.pick-whose.new.self w.pick-whose.result.0 w.pick-whose.result.1
        c.next.ensures.same (rw w.entry-is at c.record.ensures) w.in-Tick.ensures.asks w.pick-whose.ensures)
  ],
  omega arith,
)

pub returns-in-Over : goal.returns-in-Over
returns-in-Over g c =
    rw c.next.ensures.same
    (turn_last g.S.AsStep.step g.E.AsEntry.entry c.args.w.now c.loop.w c.loop.s c.loop.counter c.loop.invariant.0 c.args.many c.loop.invariant.1 (inr c.in-Over.ensures.asks))

pub returns : goal.returns
returns g c =
    turn_last g.S.AsStep.step g.E.AsEntry.entry c.args.w.now c.loop.w c.loop.s c.loop.counter c.loop.invariant.0 c.args.many c.loop.invariant.1 (inl c.loop-test.false)
