use Rattle.std.proofs.Common.{◌≡◌, MatchOption, sym, ap, ◌∙◌, rules}
use Rattle.sched.specs.declared.tasks.Slot.TheVariants as slot
use Rattle.sched.specs.House.{leaves}
use Rattle.sched.specs.Stores.{place_of, window_of}
use Rattle.sched.proofs.Lives.{leaves-shut, leaves-either}
use Rattle.sched.proofs.reserved.Reserved.leaves.Goals as goal

pub returns-then-not-is_open : goal.returns-then-not-is_open
unfolding place_of
returns-then-not-is_open c =
    sym (leaves-shut c.window.result (place_of c.args.slot) (sym c.is_open.ensures ∙ c.if-not-is_open.true)) ∙ ap (λ w. leaves (window_of w) (place_of c.args.slot)) c.window.ensures

pub returns : goal.returns
returns c =
    let told : MatchOption c.reservation.result (c.map_or.result ≡ slot.Free) (λ x. c.map_or.result ≡ slot.Kept x) = search rules in
    leaves-either c.window.result (place_of c.args.slot) c.reservation.result c.map_or.result (sym c.is_open.ensures ∙ c.if-not-is_open.false) c.reservation.ensures told ∙ ap (λ w. leaves (window_of w) (place_of c.args.slot)) c.window.ensures
