use Rattle.std.proofs.Common.{sym, ap, ◌∙◌}
use Rattle.sched.specs.House.{wants, is_reserved}
use Rattle.sched.specs.Stores.{place_of, window_of}
use Rattle.sched.proofs.Passing.{begin-reserved, begin-other}
use Rattle.sched.proofs.reserved.Reserved.begun.Goals as goal

pub returns-in-Some : goal.returns-in-Some
returns-in-Some c h slots asks at =
    begin-reserved c.window.result c.begin.result (h.place c.args.i.index) (wants h c.args.i.index) (h.window c.args.i.index) c.of.result c.in-Some.reservation.quota c.in-Some.reservation.period
    (sym (slots.at c.args.i.index) ∙ ap place_of (sym c.slot.ensures) ∙ c.in-Some.ensures) (c.of.ensures ∙ asks.at c.args.i.index) (ap window_of c.window.ensures ∙ at) c.begin.ensures

pub returns-in-None : goal.returns-in-None
returns-in-None c h slots asks at =
    begin-other c.window-in-None.result c.begin_kept.result (h.place c.args.i.index) (wants h c.args.i.index) (h.window c.args.i.index)
    (ap is_reserved (sym (slots.at c.args.i.index) ∙ ap place_of (sym c.slot.ensures)) ∙ c.in-None.ensures) (ap window_of c.window-in-None.ensures ∙ at) c.begin_kept.ensures
