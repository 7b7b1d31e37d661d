use Rattle.std.proofs.Common.{◌≡◌, false, ◌&&◌, ltb, get_or, MatchOption, ap, ◌∙◌, sym, rules}
use Rattle.windows.specs.Life as life
use Rattle.sched.specs.House.{wants}
use Rattle.sched.specs.Stores.{place_of, shut}
use Rattle.sched.proofs.Soonest.{due-either}
use Rattle.sched.proofs.reserved.Reserved.is_due.Goals as goal

pub returns : goal.returns
returns c h slots asks windows =
    let i = c.args.i.index in
    let w = get_or c.args.self.now.windows i shut in
    let told : MatchOption c.reservation.result (c.is_some_and.result ≡ false) (λ r. c.is_some_and.result ≡ (get_or c.args.wants.now.flags i false && ltb (life.got_of (life.life w)) r.quota)) = search rules in
    due-either (h.place i) (wants h i) (h.window i) c.reservation.result w (get_or c.args.wants.now.flags i false) c.is_some_and.result (sym (slots.at i) ∙ ap place_of (sym c.slot.ensures)) c.reservation.ensures told (asks.at i) (windows.at i)
