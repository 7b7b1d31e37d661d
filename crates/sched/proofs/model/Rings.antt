-- Whatever comes about, rows and owners agree and nobody waits in a ring: every call and every tick keeps `Stands`.
use Rattle.std.proofs.Common.{◌≡◌, ℕ, suc, ◌-◌, ◌<◌, true, false, eqb, [], sym, refl, ◌∙◌, arith}
use Rattle.std.proofs.lemmas.Bool.{cond-false, eq-eqb, ne_eqb, true≢false}
use Rattle.sched.specs.House.{House, Place, A, Out, put, is_task, holds, freed, passed, leaves, runner, empty, opened, number_of}
use Rattle.sched.specs.Promise.{Comes, begin, called, ran, NoRings, RowsStand, times}
use Rattle.sched.proofs.Tests.{T_true, true-T}
use Rattle.sched.proofs.Puts.{put_both}
use Rattle.sched.proofs.Bounded.{none-at}
use Rattle.sched.proofs.model.CallWays.{Ways, call-ways}
use Rattle.sched.proofs.model.Places.{freed-task}
use Rattle.sched.proofs.model.Stands.{Waiter, free-row, keeps-tasks, leaves-place, takes-lock, frees-lock, passes-lock}
use Rattle.sched.proofs.model.Runner.{Standing, Free, runner-free, queues-lock}

nobody-waits : Standing empty
unfolding times
nobody-waits =
    record {
      rank = λ i. 0;
      once = λ i m. sym (cond-false {A = ℕ} (eqb 0 (suc m)) 1 0 (ne_eqb 0 (suc m) (omega arith)));
      waiter = λ i m e. absurd (omega arith);
      holder = λ m j e. absurd (omega arith);
      falls = λ i m j e. absurd (omega arith);
    }

made-task : (n : ℕ) (x : Place) (p : ℕ → Place) (i : ℕ) → is_task x ≡ true → is_task (p i) ≡ true → is_task (put n x p i) ≡ true
made-task n x p i new old = put_both n x p i (λ z. is_task z ≡ true) (λ _. new) (λ _. old)

abbrev After : Out → Type 0
After o = Standing o.house

module _ (h : House) (s : Standing h) where
  owns_nothing : (i : ℕ) → holds h i ≡ false → (m : ℕ) → h.owner m ≡ suc i → ⊥
  owns_nothing i none m e =
      true≢false (sym (eq-eqb (h.owner m) (suc i) e) ∙ none-at (λ (k : ℕ). eqb (h.owner k) (suc i)) 64 m none (s.holder m i e).0)

  stands-called : Ways h After
  unfolding is_task
  stands-called =
      record {
        refused = λ n. s;
        make = λ n k _ _ _ _ _. keeps-tasks h.place (put n (A k) h.place) h.waits h.owner h.row s (λ i. made-task n (A k) h.place i refl);
        end = λ i l t free none. leaves-place h.place h.waits h.owner h.row i (leaves (h.window i) (h.place i)) s free (owns_nothing i none);
        wake = λ i l t. s;
        sleep = λ i l t free. s;
        take = λ i m l t l' free _ unowned. takes-lock h.place h.waits h.owner h.row i m s l t l' unowned;
        queue = λ i m l t l' free _ owned apart. queues-lock h s i m (h.owner m - 1) l t free (omega (arith, owned)) apart;
        free = λ i m l t l' free owns none. frees-lock h.place h.waits h.owner h.row m s none;
        pass = λ i m j js l t l' free owns next. passes-lock h.place h.waits h.owner h.row i m j js s owns next;
      }

pub comes-stands : {h : House} → Comes h → Standing h
comes-stands begin = nobody-waits
comes-stands (called {h} c r) = call-ways h After (stands-called h (comes-stands r)) c
comes-stands (ran {h} t j r ok) =
    keeps-tasks h.place (λ i. freed (passed (eqb (number_of t) (suc i)) ((opened h).window i)) (h.place i)) h.waits h.owner h.row (comes-stands r)
    (λ i task. freed-task (passed (eqb (number_of t) (suc i)) ((opened h).window i)) (h.place i) ∙ task)

pub no-rings : NoRings
no-rings h r i l t =
    let f = runner-free h (comes-stands r) i l (T_true (is_task (h.place i)) t) in
    (f.0, true-T (is_task (h.place (runner 64 h i))) f.1)

pub rows-stand : RowsStand
rows-stand h r i m l l' = (comes-stands r).once i m

-- What follows, for whoever knows that h can have come about.
module _ (h : House) (r : Comes h) where
  -- who waits is a task, and what it waits for has an owner
  pub waiter-is-task : (i m : ℕ) → h.waits i ≡ suc m → Waiter h.place h.owner i m
  waiter-is-task = (comes-stands r).waiter

  pub unowned-row-empty : (m : ℕ) → h.owner m ≡ 0 → h.row m ≡ []
  unowned-row-empty = free-row h.place h.waits h.owner h.row (comes-stands r)

  pub runner-is-free : (i : ℕ) → i < 64 → is_task (h.place i) ≡ true → Free h (runner 64 h i)
  runner-is-free = runner-free h (comes-stands r)
