-- What the guards' drops tell, put together: who owns a lock at the end.
use Rattle.std.proofs.Common.{◌≡◌, ℕ, suc, Bool, true, false, ◌&&◌, List, [], ◌∷◌, ◌++◌, Option, sym, refl, ap, ◌∙◌, subst, inl, inr, arith}
use Rattle.quantities.specs.Ids.{TaskId}
use Rattle.sched.specs.declared.Scheduler.{Scheduler}
use Rattle.sched.specs.declared.Answer.{Answer}
use Rattle.sched.specs.declared.Answer.TheVariants.{Done}
use Rattle.sched.specs.declared.Call.TheVariants.{Lock}
use Rattle.sched.specs.House.{House, first_of, calls, after}
use Rattle.sched.specs.Stores.{Holds}
use Rattle.sched.specs.Held.{can_take, HeldAll, Took, Gave, Let, Ticked}
use Rattle.sched.proofs.Told.{at_both}
use Rattle.sched.proofs.model.Rings.{unowned-row-empty}
use Rattle.sched.proofs.model.Held.{asks-queues}
use Rattle.guards.specs.Sections.{to_be_had, Both, HandedOn, OverTick, taken, outer}

-- WHAT A GUARD SAYS, at the numbers that code has for its task and locks
pub index : {a b : TaskId} → a ≡ b → a.index ≡ b.index
index = ap (λ (x : TaskId). x.index)

pub took-at : {s x a : Scheduler} {i j m n : ℕ} → s ≡ x → i ≡ j → m ≡ n → Took s a i m → Took x a j n
took-at {a = a} {j = j} {n = n} e f g p = subst (λ (y : Scheduler). Took y a j n) e (at_both (Took _ a) f g p)

-- what `lock` answers
abbrev pub Tells : (s : Scheduler) (i : ℕ) → List ℕ → ℕ → Bool → Type 0
Tells s i ms m r = (h : House) → Holds s h → HeldAll h i ms → r ≡ can_take h i m

pub tells-at : {s x : Scheduler} {i j m n : ℕ} {ls ms : List ℕ} {r : Bool} → s ≡ x → i ≡ j → ls ≡ ms → m ≡ n → Tells s i ls m r → Tells x j ms n r
tells-at {s} {j = j} {n = n} {ls} {ms} {r} e f g p q =
    subst (λ (y : Scheduler). Tells y j ms n r) e (subst (λ l. Tells s j l n r) g (at_both (λ a b. Tells s a ls b r) f p q))

pub gave_at : {s t : Scheduler} {i j : ℕ} {ms ns : List ℕ} → i ≡ j → ms ≡ ns → Gave s t i ms → Gave s t j ns
gave_at {s} {t} {j = j} {ms = ms} e f p = subst (Gave s t j) f (subst (λ n. Gave s t n ms) e p)

pub on-top : {ms ns ls : List ℕ} {m n : ℕ} → ls ≡ m ∷ ms → m ≡ n → ms ≡ ns → ls ≡ n ∷ ns
on-top {ms} {n = n} e f g = e ∙ (ap (λ l. l ∷ ms) f ∙ ap (λ l. n ∷ l) g)

pub head-is : {ms ns : List ℕ} {m n : ℕ} → m ∷ ms ≡ n ∷ ns → m ≡ n
head-is e = cc

pub tail-is : {ms ns : List ℕ} {m n : ℕ} → m ∷ ms ≡ n ∷ ns → ms ≡ ns
tail-is e = cc

none_first : first_of [] ≡ 0
unfolding first_of
none_first = refl

one-first : (j : ℕ) → first_of ([] ++ (j ∷ [])) ≡ suc j
unfolding first_of
one-first j = refl

apart : ◌≡◌ {A = ℕ} 5 6 → ⊥
apart e = omega (arith, e)

-- WHETHER BOTH ARE TO BE HAD. Not if 5 isn't,
pub five-tells : {s : Scheduler} {r : Bool} (i : ℕ) → Tells s i [] 5 r → r ≡ false → (h : House) → Holds s h → false ≡ to_be_had h i
five-tells i tell e h k = sym (ap (λ b. b && can_take (calls (Lock i 5) h).house i 6) (sym (tell h k tt) ∙ e))

-- and else if 6 is.
pub six-tells : {s a : Scheduler} {i : ℕ} {r t : Bool} → Tells s i [] 5 r → r ≡ true → Took s a i 5 → Tells a i (5 ∷ []) 6 t → (h : House) → Holds s h → t ≡ to_be_had h i
six-tells {i = i} tell e take next h k =
    let first = take h k in
    next (calls (Lock i 5) h).house first.0 (first.1.held [] tt) ∙ sym (ap (λ b. b && can_take (calls (Lock i 5) h).house i 6) (sym (tell h k tt) ∙ e))

-- i has 5 and 6, and nobody stands in their rows
record Nested (i : ℕ) (g : House) : Type 0 where
  all : HeldAll g i (6 ∷ 5 ∷ [])
  five : g.row 5 ≡ []
  six : g.row 6 ≡ []

module _ (s a b : Scheduler) (i : ℕ) (take : Took s a i 5) (further : Took a b i 6) (h : House) (k : Holds s h) where
  inside : Holds b (taken h i)
  inside = (further (calls (Lock i 5) h).house (take h k).0).0

  nested : Nested i (taken h i)
  nested =
      let first = take h k in
      let second = further (calls (Lock i 5) h).house first.0 in
      record {
        all = second.1.held (5 ∷ []) (first.1.held [] tt);
        five = ap (λ r. r 5) second.1.rows ∙ (ap (λ r. r 5) first.1.rows ∙ unowned-row-empty h k.comes 5 first.1.free);
        six = ap (λ r. r 6) second.1.rows ∙ unowned-row-empty (calls (Lock i 5) h).house first.0.comes 6 second.1.free;
      }

  -- one drop gives both back
  pub both-free : (t : Scheduler) → Gave b t i (6 ∷ 5 ∷ []) → Both h i t
  both-free t give =
      let last = give (taken h i) inside nested.all in
      record {
        holds = last.0;
        five = last.1.next 5 (inr (inl refl)) ∙ (ap first_of nested.five ∙ none_first);
        six = last.1.next 6 (inl refl) ∙ (ap first_of nested.six ∙ none_first);
      }

  -- 6 is given back, and over the tick 5 is still held
  pub over-tick : (d e t : Scheduler) (whose : Option ℕ) (runs : ℕ) → Gave b d i (6 ∷ []) → Ticked d e i whose runs → Gave e t i (5 ∷ []) → OverTick h i whose runs t
  over-tick d e t whose runs give tick drop =
      let third = give (taken h i) inside (nested.all.0, λ x. x, tt) in
      let still = third.1.rest (5 ∷ []) nested.all in
      let fourth = tick (outer h i) third.0 in
      let last = drop (after (outer h i) whose) fourth.1 (fourth.2 (5 ∷ []) still) in
      let free = third.1.next 6 (inl refl) ∙ (ap first_of nested.six ∙ none_first) in
      record {
        may = fourth.0;
        inner = free;
        held = still.0.owns;
        holds = last.0;
        five = last.1.next 5 (inl refl) ∙ (ap first_of (third.1.rows 5 (λ x. elim x [ inl n ↦ apart n | inr n ↦ n ]) ∙ nested.five) ∙ none_first);
        six = last.1.others 6 (λ x. elim x [ inl n ↦ apart (sym n) | inr n ↦ n ]) ∙ free;
      }

-- j alone stands in the row, so the lock is j's
pub goes_to : (s a b t : Scheduler) (i j : ℕ) (r : Answer) → Took s a i 5 → Let a b i (Lock j 5) r → r ≡ Done → Gave b t i (5 ∷ []) → (h : House) → Holds s h → HandedOn h i j t
goes_to s a b t i j r take ask done give h k =
    let g₁ = (calls (Lock i 5) h).house in
    let g₂ = (calls (Lock j 5) g₁).house in
    let first = take h k in
    let all = first.1.held [] tt in
    let asked = ask g₁ first.0 in
    let last = give g₂ asked.1 (asked.2 (5 ∷ []) all) in
    let row : g₂.row 5 ≡ [] ++ (j ∷ []) =
    asks-queues g₁ j 5 (sym asked.0 ∙ done) (λ e. omega (arith, e, all.0.owns)) ∙ ap (λ l. l ++ (j ∷ [])) (ap (λ r. r 5) first.1.rows ∙ unowned-row-empty h k.comes 5 first.1.free) in
    record { holds = last.0; five = last.1.next 5 (inl refl) ∙ (ap first_of row ∙ one-first j) }
