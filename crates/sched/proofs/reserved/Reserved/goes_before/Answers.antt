use Rattle.std.proofs.Common.{◌≡◌, true, get_or, MatchOption, ◌∙◌, rules}
use Rattle.windows.specs.Life as life
use Rattle.sched.specs.Stores.{shut}
use Rattle.sched.proofs.Soonest.{sooner-told}
use Rattle.sched.proofs.Owners.{some-too}
use Rattle.sched.proofs.reserved.Reserved.goes_before.Goals as goal

pub returns : goal.returns
returns c w windows =
    let xs = c.args.self.now.windows in
    let i = c.args.i.index in
    let told : MatchOption c.args.other (c.is_none_or.result ≡ true) (λ j. c.is_none_or.result ≡ life.goes_before (life.life (get_or xs i shut)) (life.life (get_or xs j.index shut))) = search rules in
    some-too _ _ _ c.args.other told (λ j e. e ∙ sooner-told (get_or xs i shut) (get_or xs j.index shut) (w i) (w j.index) (windows.at i) (windows.at j.index))
