-- Walking along a queue to the first who passes a test: it is `in_turn`, and 64 steps are enough, since nobody stands there twice.
use Rattle.std.proofs.Common.{◌≡◌, ℕ, zero, suc, ◌+◌, ◌<◌, ◌≤◌, Bool, true, false, cond, ◌&&◌, eqb, List, [], ◌∷◌, ◌++◌, length, Some, None, Option, sym, refl, ap, ◌∙◌, subst, inl, inr, append_assoc, arith, length-append}
use Rattle.std.proofs.lemmas.Bool.{cond_both, cond-true, cond-false, ne_eqb, cases_eq}
use Rattle.quantities.specs.Ids.{TaskId}
use Rattle.queues.specs.Members as member
use Rattle.queues.specs.Rings as queue
use Rattle.queues.specs.Outcomes.{First}
use Rattle.queues.specs.declared.fifo.Queues.{Queues}
use Rattle.queues.proofs.Lists.{member-without, not-without, times-without}
use Rattle.sched.specs.House.{in_turn}
use Rattle.sched.specs.Promise.{times}
use Rattle.sched.specs.Stores.{owner_of, keep}

-- the first who passes two tests, of all, or of those who pass one of them
pub turn-kept : (f g : ℕ → Bool) (l : List ℕ) → in_turn g (keep f l) ≡ in_turn (λ i. f i && g i) l
unfolding keep in_turn
turn-kept f g [] = refl
turn-kept f g (i ∷ is) =
    cond_both (f i) (i ∷ keep f is) (keep f is) (λ l. in_turn g l ≡ cond (f i && g i) (suc i) (in_turn (λ k. f k && g k) is))
    (λ e. rw (e, turn-kept f g is) refl) (λ e. rw (e, turn-kept f g is) refl)

-- if nobody has the turn, nobody who stands there passes
pub turn-none : (f : ℕ → Bool) (l : List ℕ) (i : ℕ) → in_turn f l ≡ 0 → 0 < times i l → f i ≡ false
unfolding in_turn times
turn-none f [] i e m = absurd (omega arith)
turn-none f (j ∷ js) i e m =
    cond_both (f j) (suc j) (in_turn f js) (λ n. n ≡ 0 → f i ≡ false) (λ _ z. absurd (omega arith))
    (λ no' z. elim (cases_eq i j) [
      | inl here ↦ ap f here ∙ no'
      | inr else ↦ turn-none f js i z (let one : eqb i j ≡ false = ne_eqb i j else in let n : 0 < 0 + times i js = rw one at m in omega arith)
    ]) e

-- the first who passes
turn-here : (f : ℕ → Bool) (i : ℕ) (is : List ℕ) → f i ≡ true → in_turn f (i ∷ is) ≡ suc i
unfolding in_turn
turn-here f i is e = cond-true (f i) (suc i) (in_turn f is) e

turn-behind : (f : ℕ → Bool) (i : ℕ) (is : List ℕ) → f i ≡ false → in_turn f (i ∷ is) ≡ in_turn f is
unfolding in_turn
turn-behind f i is e = cond-false (f i) (suc i) (in_turn f is) e

-- a list of numbers below n, none of them twice, has at most n
length_without : (n : ℕ) (l : List ℕ) → length l ≡ length (member.without n l) + member.times n l
length_without n [] = refl
length_without n (j ∷ js) =
    let ih = length_without n js in
    cond_both (eqb n j) (member.without n js) (j ∷ member.without n js) (λ l. suc (length js) ≡ length l + (cond (eqb n j) 1 0 + member.times n js))
    (λ e. rw e (omega arith)) (λ e. rw e (omega arith))

pub few-members : (n : ℕ) (l : List ℕ) → ((i : ℕ) → member.Member i l → i < n) → ((i : ℕ) → member.times i l ≤ 1) → length l ≤ n
few-members zero [] below once = omega arith
few-members zero (j ∷ js) below once = absurd (omega (arith, below j (inl refl)))
few-members (suc n) l below once =
    let less = few-members n (member.without n l)
    (λ i m. let b = below i (member-without n i l m) in elim (cases_eq i n) [ inl e ↦ absurd (not-without n l (subst (λ k. member.Member k (member.without n l)) e m)) | inr d ↦ omega arith ])
    (λ i. let o = once i in let t = times-without n i l in omega arith) in
    let all = length_without n l in
    let o = once n in
    omega arith

-- k steps along the queue xs, none of which passes f, to `at`
pub record Walked (xs : List ℕ) (f : ℕ → Bool) (k : ℕ) (at : Option TaskId) : Type 0 where
  pub done : List ℕ
  pub left : List ℕ
  pub parts : xs ≡ done ++ left
  pub steps : length done ≡ k
  pub next : First left at
  pub none : in_turn f xs ≡ in_turn f left

module _ (xs : List ℕ) (f : ℕ → Bool) where
  -- at the end of the queue
  pub walk_end : (k : ℕ) (at : Option TaskId) → at ≡ None → Walked xs f k at → owner_of None ≡ in_turn f xs
  unfolding owner_of in_turn
  walk_end k at e w = let empty : w.left ≡ [] = subst (First w.left) e w.next in sym (w.none ∙ ap (in_turn f) empty)

  pub walk-found : (k : ℕ) (at : Option TaskId) (i : TaskId) → at ≡ Some i → f i.index ≡ true → Walked xs f k at → owner_of (Some i) ≡ in_turn f xs
  unfolding owner_of
  walk-found k at i e t w =
      let here = subst (First w.left) e w.next in
      sym (w.none ∙ ap (in_turn f) here ∙ turn-here f i.index (member.rest w.left) t)

  -- where i stands
  pub walk_at : (k : ℕ) (at : Option TaskId) (i : TaskId) → at ≡ Some i → (w : Walked xs f k at) → xs ≡ w.done ++ (i.index ∷ member.rest w.left)
  walk_at k at i e w = w.parts ∙ ap (λ l. w.done ++ l) (subst (First w.left) e w.next)

  pub walk-on : (k : ℕ) (at to : Option TaskId) (i : TaskId) → at ≡ Some i → f i.index ≡ false → (w : Walked xs f k at) → First (member.rest w.left) to → Walked xs f (k + 1) to
  walk-on k at to i e t w h =
      let here = subst (First w.left) e w.next in
      record {
        done = w.done ++ (i.index ∷ []);
        left = member.rest w.left;
        parts = walk_at k at i e w ∙ sym (append_assoc w.done (i.index ∷ []) (member.rest w.left));
        steps = length-append w.done (i.index ∷ []) ∙ ap (λ n. n + 1) w.steps;
        next = h;
        none = w.none ∙ ap (in_turn f) here ∙ turn-behind f i.index (member.rest w.left) t;
      }

  -- 64 steps are enough
  pub walk-all : (at : Option TaskId) → length xs ≤ 64 → Walked xs f 64 at → owner_of None ≡ in_turn f xs
  unfolding owner_of in_turn
  walk-all at few w =
      let parts = ap length w.parts ∙ length-append w.done w.left in
      let empty : w.left ≡ [] = no_more w.left (omega (arith, parts, w.steps)) in
      sym (w.none ∙ ap (in_turn f) empty)
    where
      no_more : (l : List ℕ) → length l ≤ 0 → l ≡ []
      no_more [] e = refl
      no_more (j ∷ js) e = absurd (omega arith)

-- a queue has at most 64
pub queue-few : (s : Queues) (f : ℕ → List ℕ) (q : ℕ) → queue.Holds s f → length (f q) ≤ 64
queue-few s f q h = few-members 64 (f q) (h.member q) (h.once q)
