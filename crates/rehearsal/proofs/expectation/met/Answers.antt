-- What follows is settled by which form the line has.
use Rattle.std.proofs.Common.{rules}
use Rattle.rehearsal.specs.Cuts.{left}
use Rattle.rehearsal.proofs.Meeting.{following-ticks, next-line}
use Rattle.rehearsal.proofs.expectation.met.Goals as goal

pub returns-in-Some : goal.returns-in-Some
returns-in-Some c = rw (following-ticks c.args.want.now c.in-Some.many (left c.args.lines.now) c.in-Some.ensures) c.are_ticks.ensures

pub returns-in-None : goal.returns-in-None
returns-in-None c = next-line c.args.want.now (left c.args.lines.now) (left c.next.new.self) _ c.is_some_and.result _ c.in-None.ensures c.next.ensures.steps c.is_some_and.ensures (λ p q. search rules)
