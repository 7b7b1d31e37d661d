-- Each test of the code is the one of the rules, in their order; then the lock is taken, or waited for.
use Rattle.std.proofs.Common.{◌≡◌, Bool, true, false, not, ◌||◌, sym, refl, ◌∙◌, arith, rules}
use Rattle.std.proofs.lemmas.Bool.{le-leb, lt-leb, eqb-true, eq-eqb, ne_eqb, not-false, not_from_true, not_from_false, or_left, or_right, or_from}
use Rattle.sched.specs.declared.refusal.Refusal.TheVariants.{NoTask, BadNumber, Waits, Ring}
use Rattle.sched.specs.Stores.{owner_of}
use Rattle.sched.proofs.Told.{turned-away, refused-for, went-through, holds-locked}
use Rattle.sched.proofs.Changes.{stores-takes, stores-queues}
use Rattle.sched.proofs.Waiting.{waits-free, ring-told}
use Rattle.sched.proofs.model.CallWays.{takes, queues}
use Rattle.sched.proofs.model.Outcomes.{lock-none, lock-bad, lock-waits, lock-takes, lock-ring, lock-queues}
use Rattle.sched.proofs.Scheduler.lock.Goals as goal

pub returns-in_err-i : goal.returns-in_err-i
returns-in_err-i c =
    let none = c.in_err-i.ensures in
    turned-away NoTask c.from_residual.ensures.1 none.0 (λ h k. lock-none h c.args.number c.args.lock (none.1 h k))

pub returns-in_err-m : goal.returns-in_err-m
returns-in_err-m c =
    let i = c.in_ok-i.i in
    let found = c.in_ok-i.ensures in
    rw (← found.0) (turned-away BadNumber c.from_residual-in_err-m.ensures.1 refl (λ h k. lock-bad h i.index c.args.lock (found.1 h k) (le-leb 64 c.args.lock c.in_err-m.ensures)))

pub returns-in_err-not_waiting : goal.returns-in_err-not_waiting
returns-in_err-not_waiting c =
    let i = c.in_ok-i.i in
    let m = c.in_ok-m.m in
    let found = c.in_ok-i.ensures in
    let lock = c.in_ok-m.ensures in
    let waits = c.in_err-not_waiting.ensures in
    rw (← found.0, ← lock.0) (turned-away Waits c.from_residual-in_err-not_waiting.ensures.1 waits.0 (λ h k.
    lock-waits h i.index m.index (found.1 h k) (lt-leb 64 m.index m.within) (or_left _ _ (waits.1 h k))))

pub returns-then-not-is_awake : goal.returns-then-not-is_awake
returns-then-not-is_awake c =
    let i = c.in_ok-i.i in
    let m = c.in_ok-m.m in
    let found = c.in_ok-i.ensures in
    let lock = c.in_ok-m.ensures in
    rw (← found.0, ← lock.0) (refused-for Waits (λ h k.
    lock-waits h i.index m.index (found.1 h k) (lt-leb 64 m.index m.within) (or_right _ _ (not_from_false _ (sym (k.stores.awake.at i.index) ∙ (sym c.is_awake.ensures ∙ c.if-not-is_awake.true))))))

-- it waits for nothing and is awake
ready : {x b y : Bool} → x ≡ false → b ≡ y → b ≡ true → (x || not y) ≡ false
ready {x = x} {y = y} free e awake = or_from x (not y) free (not_from_true y (sym e ∙ awake))

pub returns-in_default : goal.returns-in_default
unfolding owner_of
returns-in_default c =
    let s = c.args.self.now in
    let i = c.in_ok-i.i in
    let m = c.in_ok-m.m in
    let found = c.in_ok-i.ensures in
    let lock = c.in_ok-m.ensures in
    rw (← found.0, ← lock.0) (went-through _ (takes i.index m.index)
    (λ h k.
    lock-takes h i.index m.index (found.1 h k) (lt-leb 64 m.index m.within)
    (ready (c.in_ok-not_waiting.ensures h k) (c.is_awake.ensures ∙ k.stores.awake.at i.index) c.if-not-is_awake.false) (eq-eqb (h.owner m.index) 0 (sym (c.in_default.ensures h (holds-locked s h k)))))
    (λ h k. stores-takes s h k.stores c.take.new.self i m.index m.within c.take.ensures.owners c.take.ensures.waiters))

pub returns-then-eq : goal.returns-then-eq
unfolding owner_of
returns-then-eq c =
    let s = c.args.self.now in
    let i = c.in_ok-i.i in
    let m = c.in_ok-m.m in
    let found = c.in_ok-i.ensures in
    let lock = c.in_ok-m.ensures in
    rw (← found.0, ← lock.0) (refused-for Ring (λ h k.
    let l = holds-locked s h k in
    let owns = c.in-Some.ensures h l in
    lock-ring h i.index m.index (found.1 h k) (lt-leb 64 m.index m.within)
    (ready (c.in_ok-not_waiting.ensures h k) (c.is_awake.ensures ∙ k.stores.awake.at i.index) c.if-not-is_awake.false) (ne_eqb (h.owner m.index) 0 (λ z. omega (arith, owns, z)))
    (ring-told h m.index i.index c.in-Some.owner.index c.runner.result.index owns (c.runner.ensures h l) ∙ (search rules))))

pub returns : goal.returns
unfolding owner_of
returns c =
    let s = c.args.self.now in
    let i = c.in_ok-i.i in
    let m = c.in_ok-m.m in
    let found = c.in_ok-i.ensures in
    let lock = c.in_ok-m.ensures in
    rw (← found.0, ← lock.0) (went-through _ (queues i.index m.index)
    (λ h k.
    let l = holds-locked s h k in
    let owns = c.in-Some.ensures h l in
    lock-queues h i.index m.index (found.1 h k) (lt-leb 64 m.index m.within)
    (ready (c.in_ok-not_waiting.ensures h k) (c.is_awake.ensures ∙ k.stores.awake.at i.index) c.if-not-is_awake.false) (ne_eqb (h.owner m.index) 0 (λ z. omega (arith, owns, z)))
    (ring-told h m.index i.index c.in-Some.owner.index c.runner.result.index owns (c.runner.ensures h l) ∙ (search rules)))
    (λ h k.
    let free = eqb-true (h.waits i.index) 0 (not-false _ (c.in_ok-not_waiting.ensures h k)) in
    stores-queues s h k.stores c.wait.new.self i.index m.index (waits-free h k.comes i.index free) c.wait.ensures.owners c.wait.ensures.rows))
