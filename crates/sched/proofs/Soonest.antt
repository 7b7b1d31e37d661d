-- Of windows that are due, one that is served before all others: why the best of all places, found one after the other, keeps the policy.
use Rattle.std.proofs.Common.{◌≡◌, ℕ, ◌+◌, ◌<◌, ◌≤◌, Bool, true, false, ◌&&◌, ltb, Some, None, Option, sym, refl, ◌∙◌, ⊎_elim, true≢false, arith, below_more, MatchOption}
use mathlib.Core.Bool.{false≢true}
use Rattle.std.proofs.lemmas.Bool.{cases_Bool, lt-ltb, le-ltb, ltb-true, ltb-false, both_ways}
use Rattle.quantities.specs.Ids.{TaskId}
use Rattle.quantities.specs.declared.promises.Reservation.{Reservation}
use Rattle.windows.specs.Life as life
use Rattle.windows.specs.declared.Window as code-window
use Rattle.sched.specs.House.{House, Place, Window, Shut, Open, is_reserved, quota_of, got_of, some', due}
use Rattle.sched.specs.Stores.{window_of, reserved_place}
use Rattle.sched.specs.Midtick.{sooner_than, BestBelow, SoonestDue}
use Rattle.sched.specs.Windows.{ends_of, is_whole}
use Rattle.sched.proofs.Tests.{T_true, true-T, and_T, and-left-T, and-right-T}
use Rattle.sched.proofs.Bounded.{none_from}
use Rattle.sched.proofs.Lives.{read, window-read, got-told}

-- the crate's order of windows is this one
read-sooner : (l m : life.Life) → life.goes_before l m ≡ sooner_than (read l) (read m)
unfolding sooner_than
read-sooner life.Shut m = refl
read-sooner (life.Open e g b) life.Shut = refl
read-sooner (life.Open e g b) (life.Open f k c) = refl

pub sooner-told : (v w : code-window.Window) (x y : Window) → window_of v ≡ x → window_of w ≡ y → life.goes_before (life.life v) (life.life w) ≡ sooner_than x y
sooner-told v w x y e f = read-sooner (life.life v) (life.life w) ∙ rw (sym (window-read v) ∙ e, sym (window-read w) ∙ f) refl

ltb_self : (e : ℕ) → ltb e e ≡ false
ltb_self e = le-ltb e e (omega arith)

never-sooner : (w : Window) → sooner_than w w ≡ false
unfolding sooner_than
never-sooner Shut = refl
never-sooner (Open e g true) = ltb_self e
never-sooner (Open e g false) = ltb_self e

sooner-trans : (u v w : Window) → sooner_than u v ≡ true → sooner_than v w ≡ true → sooner_than u w ≡ true
unfolding sooner_than
sooner-trans Shut v w p q = p
sooner-trans (Open e g b) v Shut p q = refl
sooner-trans (Open e g b) Shut (Open x y z) p q = absurd (false≢true q)
sooner-trans (Open e g true) (Open f k true) (Open x y true) p q = lt-ltb e x (let l = ltb-true e f p in let m = ltb-true f x q in omega arith)
sooner-trans (Open e g true) (Open f k c) (Open x y false) p q = refl
sooner-trans (Open e g true) (Open f k false) (Open x y true) p q = absurd (false≢true q)
sooner-trans (Open e g false) (Open f k true) (Open x y z) p q = absurd (false≢true p)
sooner-trans (Open e g false) (Open f k false) (Open x y true) p q = absurd (false≢true q)
sooner-trans (Open e g false) (Open f k false) (Open x y false) p q = lt-ltb e x (let l = ltb-true e f p in let m = ltb-true f x q in omega arith)

-- what a whole window isn't served before is whole, and ends no later
whole-first : (v w : Window) → is_whole v ≡ true → sooner_than v w ≡ false → (is_whole w ≡ true) × (ends_of w ≤ ends_of v)
unfolding sooner_than is_whole ends_of
whole-first Shut w e s = absurd (false≢true e)
whole-first (Open x g true) Shut e s = absurd (true≢false s)
whole-first (Open x g true) (Open f k true) e s = (refl, ltb-false x f s)
whole-first (Open x g true) (Open f k false) e s = absurd (true≢false s)
whole-first (Open x g false) w e s = absurd (false≢true e)

module _ (h : House) (k : ℕ) where
  -- k isn't due
  pub best-skip : (best : Option TaskId) → due h k ≡ false → BestBelow k h best → BestBelow (k + 1) h best
  best-skip None none b = below_more (λ j. due h j ≡ false) k b none
  best-skip (Some i) none b =
      (b.0, below_more (λ j. due h j ≡ true → sooner_than (h.window j) (h.window i.index) ≡ false) k b.1 (λ d. absurd (both_ways (due h k) none d)))

  -- k isn't served before the best
  pub best-keep : (best : Option TaskId) (before : Bool) → before ≡ false → MatchOption best (before ≡ true) (λ j. before ≡ sooner_than (h.window k) (h.window j.index)) → BestBelow k h best → BestBelow (k + 1) h best
  best-keep None before no' than b = absurd (both_ways before no' than)
  best-keep (Some i) before no' than b =
      (b.0, below_more (λ j. due h j ≡ true → sooner_than (h.window j) (h.window i.index) ≡ false) k b.1 (λ d. sym than ∙ no'))

  -- k is
  pub best-take : (best : Option TaskId) (before : Bool) (i : TaskId) → i.index ≡ k → due h k ≡ true → before ≡ true → MatchOption best (before ≡ true) (λ j. before ≡ sooner_than (h.window k) (h.window j.index)) → BestBelow k h best →
      (due h i.index ≡ true) × ((j : ℕ) → j < k + 1 → due h j ≡ true → sooner_than (h.window j) (h.window i.index) ≡ false)
  best-take best before i e d goes than b =
      rw e (d, below_more (λ j. due h j ≡ true → sooner_than (h.window j) (h.window k) ≡ false) k (earlier best than b) (λ _. never-sooner (h.window k)))
    where
      earlier : (best : Option TaskId) → MatchOption best (before ≡ true) (λ j. before ≡ sooner_than (h.window k) (h.window j.index)) → BestBelow k h best → (j : ℕ) → j < k → due h j ≡ true → sooner_than (h.window j) (h.window k) ≡ false
      earlier None than b j l due-j = absurd (both_ways (due h j) (b j l) due-j)
      earlier (Some m) than b j l due-j =
          ⊎_elim (λ s. absurd (both_ways (sooner_than (h.window j) (h.window m.index)) (b.1 j l due-j) (sooner-trans (h.window j) (h.window k) (h.window m.index) s (sym than ∙ goes)))) (λ s. s)
          (cases_Bool (sooner_than (h.window j) (h.window k)))

-- the best of all places
pub best-all : (h : House) (best : Option TaskId) → BestBelow 64 h best → MatchOption best (some' 64 (due h) ≡ false) (λ i. SoonestDue h i.index)
best-all h None b = none_from (due h) 64 b
best-all h (Some i) b =
    record {
      here = b.0;
      first = λ j l d.
          let due-j = T_true (due h j) (and-left-T (due h j) (is_whole (h.window j)) d) in
          let whole-j = T_true (is_whole (h.window j)) (and-right-T (due h j) (is_whole (h.window j)) d) in
          let w = whole-first (h.window j) (h.window i.index) whole-j (b.1 j l due-j) in
          (and_T (due h i.index) (is_whole (h.window i.index)) (true-T _ b.0) (true-T _ w.0), w.1);
    }

-- the same, whether or not there is a reservation
pub due-either : (p : Place) (v : Bool) (x : Window) {s : Place} (o : Option Reservation) (w : code-window.Window) (b r : Bool) → p ≡ s → MatchOption o (is_reserved s ≡ false) (λ a. s ≡ reserved_place a.quota a.period) →
    MatchOption o (r ≡ false) (λ a. r ≡ (b && ltb (life.got_of (life.life w)) a.quota)) → b ≡ v → window_of w ≡ x → r ≡ (is_reserved p && v && ltb (got_of x) (quota_of p))
unfolding is_reserved quota_of
due-either p v x None w b r e none told is at = told ∙ rw (e, none) refl
due-either p v x (Some a) w b r e some told is at = told ∙ rw (e, some, is, got-told w, at) refl
