-- What a guard tells of the scheduler, from what the calls that it makes are answered.
use Rattle.std.proofs.Common.{◌≡◌, ℕ, suc, ◌+◌, ◌<◌, ◌≤◌, Bool, true, false, eqb, T, List, [], ◌∷◌, length, None, Option, sym, refl, subst, inl, inr, arith}
use Rattle.std.proofs.lemmas.Bool.{cases_lt, cond_both, eqb-true}
use Rattle.queues.specs.Members.{Member, times}
use Rattle.queues.proofs.Lists.{times_none}
use Rattle.sched.specs.declared.Scheduler.{Scheduler}
use Rattle.sched.specs.declared.Call.{Call}
use Rattle.sched.specs.declared.Call.TheVariants.{Lock}
use Rattle.sched.specs.declared.Answer.{Answer}
use Rattle.sched.specs.Called.{Told}
use Rattle.sched.specs.House.{House, Out, may_run, after}
use Rattle.sched.specs.Held.{can_take, Ready, HeldAll, Taken, Took, Unlocked, Gave, Let, Ticked, concerns}
use Rattle.sched.specs.Stores.{Holds, owner_of}
use Rattle.sched.proofs.Upto.{reads-past}
use Rattle.sched.proofs.Walks.{few-members}
use Rattle.sched.proofs.model.CallWays.{takes}
use Rattle.sched.proofs.model.Held.{free-takes, takes-taken, one-held, gives_back, others_keep, tick-keeps}

not-true-false : (b : Bool) → (b ≡ true → ⊥) → b ≡ false
not-true-false true n = absurd (n refl)
not-true-false false n = refl

pub took : (s t : Scheduler) (i m : ℕ) (r : Answer) → m < 64 → Ready s i m → Told s t (Lock i m) r → Took s t i m
took s t i m r l ready told h k =
    ((told h k).1, subst (λ (o : Out). Taken h o.house i m) (sym (free-takes h i m l (ready h k))) (takes-taken h i m (ready h k)))

-- no lock beyond the last is anybody's
owned_below : (s : Scheduler) (h : House) → Holds s h → (m i : ℕ) → h.owner m ≡ suc i → m < 64
unfolding owner_of
owned_below s h k m i e =
    elim (cases_lt m 64) [ inl l ↦ l | inr l ↦ let free = reads-past owner_of None k.stores.owners m l in omega (arith, free, e) ]

-- It holds different locks, and none of them is free: so there is room for a further one.
once-held : (h : House) (i : ℕ) (ms : List ℕ) → HeldAll h i ms → (n : ℕ) → times n ms ≤ 1
once-held h i [] k n = omega arith
once-held h i (m ∷ ms) k n =
    let rest = once-held h i ms k.2 n in
    cond_both (eqb n m) 1 0 (λ x. x + times n ms ≤ 1) (λ e. let none = times_none n ms (λ x. k.1 (subst (λ l. Member l ms) (eqb-true n m e) x)) in omega arith) (λ _. omega arith)

pub full-cannot : (s : Scheduler) (h : House) → Holds s h → (i m : ℕ) (ms : List ℕ) → m < 64 → HeldAll h i ms → 64 ≤ length ms → can_take h i m ≡ false
full-cannot s h k i m ms l held full = not-true-false (can_take h i m) (λ e.
    let once = once-held (takes i m h) i (m ∷ ms) ((takes-taken h i m e).held ms held) in
    let below : (n : ℕ) → Member n (m ∷ ms) → n < 64 = λ n x. elim x [ inl q ↦ subst (λ o. o < 64) (sym q) l | inr y ↦ owned_below s h k n i (one-held h i ms held n y).owns ] in
    let few = few-members 64 (m ∷ ms) below once in
    omega arith)

pub gave : (s t : Scheduler) (i : ℕ) (ms : List ℕ) → Unlocked s t i ms → Gave s t i ms
gave s t i ms unlocked h k held =
    (unlocked h k, gives_back i ms h (λ n x. owned_below s h k n i (one-held h i ms held n x).owns) held)

pub let_through : (s t : Scheduler) (i : ℕ) (c : Call) (r : Answer) → concerns i c ≡ false → Told s t c r → Let s t i c r
let_through s t i c r other told h k = ((told h k).0, (told h k).1, others_keep h i c other)

pub goes_by : (s t : Scheduler) (i : ℕ) (whose : Option ℕ) (runs : ℕ) → ((h : House) → Holds s h → T (may_run h whose runs) × Holds t (after h whose)) → Ticked s t i whose runs
goes_by s t i whose runs picked h k = ((picked h k).0, (picked h k).1, tick-keeps h i whose)
