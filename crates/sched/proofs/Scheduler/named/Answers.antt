use Rattle.std.proofs.Common.{◌≡◌, ℕ, suc, Some, None, Option, MatchOption, ap, arith, rules}
use Rattle.quantities.specs.Ids.{TaskId}
use Rattle.sched.specs.House.{House, runner, number_of}
use Rattle.sched.specs.Stores.{Locked, owner_of}
use Rattle.sched.proofs.Scheduler.named.Goals as goal

same_number : (o : Option TaskId) (r : Option ℕ) → MatchOption o (r ≡ None) (λ x. r ≡ Some x.index) → number_of r ≡ owner_of o
unfolding number_of owner_of
same_number None r e = ap number_of e
same_number (Some i) r e = ap number_of e

pub returns-clause-number : goal.returns-clause-number
returns-clause-number c = same_number c.args.whose c.map.result (search rules)

runs : (P : House → Type 0) (o : Option TaskId) (n : ℕ) → MatchOption o (Unit {0}) (λ x. (h : House) → P h → n ≡ runner 64 h x.index) → (h : House) (i : ℕ) → P h → owner_of o ≡ suc i → n ≡ runner 64 h i
unfolding owner_of
runs P None n told h i l e = absurd (omega arith)
runs P (Some x) n told h i l e = let same : x.index ≡ i = omega arith in rw (← same) (told h l)

pub returns-clause-runs : goal.returns-clause-runs
returns-clause-runs c = runs (Locked c.args.self.now.locks) c.args.whose c.map_or-runs.result (search rules)
