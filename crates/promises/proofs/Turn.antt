-- The turn holds every task, and of the fixed ones that which went without longest comes first: so who has the tick is that one.
use Rattle.std.proofs.Common.{◌≡◌, ℕ, suc, ◌-◌, ◌<◌, ◌≤◌, true, false, cond, eqb, List, [], ◌∷◌, ◌++◌, sym, refl, ◌∙◌, inl, inr, ⊎_elim, arith}
use mathlib.Core.Bool.{false≢true}
use Rattle.std.proofs.lemmas.Bool.{cond_both, cond-true, cond-false, cases_eq, cases_lt, and_from, eq-eqb, ne_eqb, eqb-true, eqb-false, both_ways}
use Rattle.sched.specs.declared.Kind.{Kind}
use Rattle.sched.specs.House.{House, Place, Nobody, A, Kept, Window, Shut, Open, empty, put, is_task, is_fixed, rank_of, leaves, freed, passed, without, wants, rank_wants, top_rank, some', opened, after, number_of}
use Rattle.sched.proofs.Tests.{T_true}
use Rattle.sched.proofs.Puts.{put-at, put-else, put_both}
use Rattle.sched.proofs.Bounded.{some-from, first-least, first_below}
use Rattle.sched.proofs.model.CallWays.{Ways, call-ways}
use Rattle.sched.proofs.model.Places.{leaves_none, freed-task}
use Rattle.sched.proofs.model.TakeWays.{run-taken, rank-wants-parts, turn-parts, fixed-takes}
use Rattle.sched.proofs.model.Ticks.{wants-opened}
use Rattle.sched.proofs.model.Turn.{fixed-task}
use Rattle.promises.specs.InTurn.{Dated, begin, called, ran, dates, InTurn}
use Rattle.promises.proofs.Orders.{Among, InOrder, among-push, push-among, among-without, without-among, order-push, order-without, order_same, first-earliest}

pub record Queued (place : ℕ → Place) (turn : List ℕ) (last : ℕ → ℕ) (n : ℕ) : Type 0 where
  pub within : (k : ℕ) → is_task (place k) ≡ true → k < 64
  pub tasks : (k : ℕ) → Among k turn → is_task (place k) ≡ true
  pub present : (k : ℕ) → is_task (place k) ≡ true → Among k turn
  pub past : (k : ℕ) → Among k turn → last k < n
  pub ordered : InOrder (λ k. is_fixed (place k)) last turn

queued-empty : Queued empty.place empty.turn (λ i. 0) 0
unfolding is_task
queued-empty =
    record { within = λ k e. absurd (false≢true e); tasks = λ k a. absurd a; present = λ k e. absurd (false≢true e); past = λ k a. absurd a; ordered = tt }

module _ (place : ℕ → Place) (turn : List ℕ) (last : ℕ → ℕ) (n : ℕ) (at : Queued place turn last n) where
  queued-later : Queued place turn last (suc n)
  queued-later =
      record { within = at.within; tasks = at.tasks; present = at.present; past = λ k a. let l = at.past k a in omega arith; ordered = at.ordered }

  queued-placed : (p : ℕ → Place) → ((k : ℕ) → (is_task (p k) ≡ is_task (place k)) × (is_fixed (p k) ≡ is_fixed (place k))) → Queued p turn last n
  queued-placed p same =
      record {
        within = λ k e. at.within k (sym (same k).0 ∙ e);
        tasks = λ k a. (same k).0 ∙ at.tasks k a;
        present = λ k e. at.present k (sym (same k).0 ∙ e);
        past = at.past;
        ordered = order_same (λ k. is_fixed (place k)) last (λ k. is_fixed (p k)) last turn (λ k _ e. (sym (same k).1 ∙ e, refl)) at.ordered;
      }

  -- m, dated n, stands last behind all others
  queued-last : (m : ℕ) (p : ℕ → Place) (new : ℕ → ℕ) (others : List ℕ) → m < 64 → is_task (p m) ≡ true → new m ≡ n → ((k : ℕ) → (k ≡ m → ⊥) → (p k ≡ place k) × (new k ≡ last k)) →
      ((k : ℕ) → Among k others → Among k turn × (k ≡ m → ⊥)) → ((k : ℕ) → Among k turn → (k ≡ m → ⊥) → Among k others) → InOrder (λ k. is_fixed (place k)) last others → Queued p (others ++ (m ∷ [])) new (suc n)
  queued-last m p new others lm task date same other all ordered =
      record {
        within = λ k e. ⊎_elim (λ here. rw here lm) (λ else. at.within k (rw (same k else).0 at e)) (cases_eq k m);
        tasks = λ k a. ⊎_elim (λ b. let o = other k b in rw (same k o.1).0 (at.tasks k o.0)) (λ here. rw here task) (among-push k m others a);
        present = λ k e. push-among k m others (⊎_elim inr (λ else. inl (all k (at.present k (rw (same k else).0 at e)) else)) (cases_eq k m));
        past = λ k a. ⊎_elim (λ b. let l = earlier k b in omega arith) (λ here. rw here (omega arith)) (among-push k m others a);
        ordered = order-push (λ k. is_fixed (p k)) new m others
            (order_same (λ k. is_fixed (place k)) last (λ k. is_fixed (p k)) new others (λ k a f. let s = same k (other k a).1 in (rw s.0 at f, s.1)) ordered)
            (λ k a _. rw date (earlier k a));
      }
    where
      earlier : (k : ℕ) → Among k others → new k < n
      earlier k a = let o = other k a in rw (same k o.1).1 (at.past k o.0)

  queued-made : (m : ℕ) (k : Kind) → m < 64 → place m ≡ Nobody → Queued (put m (A k) place) (turn ++ (m ∷ [])) (put m n last) (suc n)
  unfolding is_task
  queued-made m k lm free =
      queued-last m (put m (A k) place) (put m n last) turn lm (rw (put-at m (A k) place) refl) (put-at m n last) (λ j e. (put-else m (A k) place j e, put-else m n last j e))
      (λ j a. (a, λ e. both_ways (is_task (place m)) (rw free refl) (rw e at (at.tasks j a)))) (λ j a _. a) at.ordered

  queued-ended : (i : ℕ) (p : Place) → is_task p ≡ false → Queued (put i p place) (without i turn) last n
  queued-ended i p none =
      record {
        within = λ k e. at.within k (was k e).0;
        tasks = λ k a. let b = among-without k i turn a in rw (put-else i p place k b.1) (at.tasks k b.0);
        present = λ k e. without-among k i turn (at.present k (was k e).0) (was k e).1;
        past = λ k a. at.past k (among-without k i turn a).0;
        ordered = order_same (λ k. is_fixed (place k)) last (λ k. is_fixed (put i p place k)) last (without i turn)
            (λ k a f. (rw (put-else i p place k (among-without k i turn a).1) at f, refl)) (order-without (λ k. is_fixed (place k)) last i turn at.ordered);
      }
    where
      was : (k : ℕ) → is_task (put i p place k) ≡ true → (is_task (place k) ≡ true) × (k ≡ i → ⊥)
      was k = put_both i p place k (λ q. is_task q ≡ true → (is_task (place k) ≡ true) × (k ≡ i → ⊥)) (λ _ e. absurd (both_ways (is_task p) none e)) (λ else e. (e, else))

  -- the tick is r's, who isn't fixed, or nobody's
  queued-passed : (r : ℕ) → ((k : ℕ) → is_fixed (place k) ≡ true → r ≡ suc k → ⊥) → Queued place turn (λ i. cond (eqb r (suc i)) n (last i)) (suc n)
  queued-passed r apart =
      record {
        within = at.within;
        tasks = at.tasks;
        present = at.present;
        past = λ k a. let l = at.past k a in cond_both (eqb r (suc k)) n (last k) (λ d. d < suc n) (λ _. omega arith) (λ _. omega arith);
        ordered = order_same (λ k. is_fixed (place k)) last (λ k. is_fixed (place k)) (λ i. cond (eqb r (suc i)) n (last i)) turn
            (λ k _ f. (f, cond-false (eqb r (suc k)) n (last k) (ne_eqb r (suc k) (apart k f)))) at.ordered;
      }

  -- a tick: who has it is dated, and if fixed stands last
  queued-ticked : (r : ℕ) → Queued place (cond (eqb r 0) turn (cond (is_fixed (place (r - 1))) (without (r - 1) turn ++ ((r - 1) ∷ [])) turn)) (λ i. cond (eqb r (suc i)) n (last i)) (suc n)
  queued-ticked r =
      cond_both (eqb r 0) turn (cond (is_fixed (place (r - 1))) (without (r - 1) turn ++ ((r - 1) ∷ [])) turn) After
      (λ z. queued-passed r (λ k _ e. let none = eqb-true r 0 z in omega arith))
      (λ z. cond_both (is_fixed (place (r - 1))) (without (r - 1) turn ++ ((r - 1) ∷ [])) turn After (λ f. moved (eqb-false r 0 z) f)
      (λ f. queued-passed r (λ k g e. let same : r - 1 ≡ k = omega arith in both_ways (is_fixed (place k)) (rw same at f) g)))
    where
      After : List ℕ → Type 0
      After ts = Queued place ts (λ i. cond (eqb r (suc i)) n (last i)) (suc n)

      moved : (r ≡ 0 → ⊥) → is_fixed (place (r - 1)) ≡ true → Queued place (without (r - 1) turn ++ ((r - 1) ∷ [])) (λ i. cond (eqb r (suc i)) n (last i)) (suc n)
      moved some f =
          let task = fixed-task (place (r - 1)) f in
          queued-last (r - 1) place (λ i. cond (eqb r (suc i)) n (last i)) (without (r - 1) turn) (at.within (r - 1) task) task
          (cond-true (eqb r (suc (r - 1))) n (last (r - 1)) (eq-eqb r (suc (r - 1)) (omega arith)))
          (λ k e. (refl, cond-false (eqb r (suc k)) n (last k) (ne_eqb r (suc k) (λ s. e (omega arith)))))
          (λ k a. among-without k (r - 1) turn a) (λ k a e. without-among k (r - 1) turn a e) (order-without (λ k. is_fixed (place k)) last (r - 1) turn at.ordered)

freed-fixed : (w : Window) (p : Place) → is_fixed (freed w p) ≡ is_fixed p
unfolding freed is_fixed
freed-fixed Shut Nobody = refl
freed-fixed Shut (A k) = refl
freed-fixed Shut (Kept q p) = refl
freed-fixed (Open e g b) p = refl

freed-same : (w : Window) (p : Place) → (is_task (freed w p) ≡ is_task p) × (is_fixed (freed w p) ≡ is_fixed p)
freed-same w p = (freed-task w p, freed-fixed w p)

queued-ways : (n : ℕ) (h : House) (last : ℕ → ℕ) → Queued h.place h.turn last n → Ways h (λ o. Queued o.house.place o.house.turn (dates o.answer n last) (suc n))
unfolding dates
queued-ways n h last at =
    let later = queued-later h.place h.turn last n at in
    record {
      refused = λ k. later;
      make = λ m k _ l free _ _. queued-made h.place h.turn last n at m k l free;
      end = λ i _ _ _ _. queued-ended h.place h.turn last (suc n) later i (leaves (h.window i) (h.place i)) (leaves_none (h.window i) (h.place i));
      wake = λ i _ _. later;
      sleep = λ i _ _ _. later;
      take = λ i m _ _ _ _ _ _. later;
      queue = λ i m _ _ _ _ _ _ _. later;
      free = λ i m _ _ _ _ _ _. later;
      pass = λ i m j js _ _ _ _ _ _. later;
    }

pub queued-dated : {n : ℕ} {h : House} {last : ℕ → ℕ} → Dated n h last → Queued h.place h.turn last n
queued-dated begin = queued-empty
queued-dated (called {n} {h} {last} c d) =
    call-ways h (λ o. Queued o.house.place o.house.turn (dates o.answer n last) (suc n)) (queued-ways n h last (queued-dated d)) c
queued-dated (ran {n} {h} {last} t j d m) =
    queued-placed h.place (after h t).turn (λ i. cond (eqb (number_of t) (suc i)) n (last i)) (suc n)
    (queued-ticked h.place h.turn last n (queued-dated d) (number_of t)) (after h t).place (λ k. freed-same (passed (eqb (number_of t) (suc k)) ((opened h).window k)) (h.place k))

-- the first rank of which one wants is no lower than that of any who wants
top_least : (h : House) (k : ℕ) → k < 64 → rank_wants h (rank_of (h.place k)) k ≡ true → some' 16 (λ (r : ℕ). some' 64 (rank_wants h r)) ≡ true → top_rank h ≤ rank_of (h.place k)
top_least h k lk w s =
    ⊎_elim (λ l. first-least (λ (r : ℕ). some' 64 (rank_wants h r)) 16 (rank_of (h.place k)) l (some-from (rank_wants h (rank_of (h.place k))) 64 k lk w))
    (λ l. let below = first_below (λ (r : ℕ). some' 64 (rank_wants h r)) 16 s in omega arith) (cases_lt (rank_of (h.place k)) 16)

pub in-turn : InTurn
in-turn n h last d t j m i k e fi fk wk apart =
    let at = queued-dated d in
    let taken = fixed-takes (opened h) i (run-taken h t j i m e).1 (T_true (is_fixed (h.place i)) fi) in
    let rank-i = (turn-parts (opened h) i taken.1).1 in
    let fixed-k = T_true (is_fixed (h.place k)) fk in
    let task-k = fixed-task (h.place k) fixed-k in
    let wants-k = wants-opened h k ∙ T_true (wants h k) wk in
    let could : (r : ℕ) → rank_of (h.place k) ≡ r → rank_wants (opened h) r k ≡ true = λ r s. and_from _ _ (and_from _ _ fixed-k (eq-eqb (rank_of (h.place k)) r s)) wants-k in
    let least = top_least (opened h) k (at.within k task-k) (could (rank_of (h.place k)) refl) taken.0 in
    ⊎_elim
    (λ same. inr (
      sym same,
      first-earliest (λ k. is_fixed (h.place k)) last (rank_wants (opened h) (top_rank (opened h))) (λ k w. (rank-wants-parts (opened h) (top_rank (opened h)) k w).0)
          h.turn at.ordered i taken.1 k (at.present k task-k) (could (top_rank (opened h)) (same ∙ rank-i)) apart,
    ))
    (λ other. inl (below (rank_of (h.place i)) (top_rank (opened h)) (rank_of (h.place k)) rank-i least other)) (cases_eq (rank_of (h.place k)) (rank_of (h.place i)))
  where
    below : (a b c : ℕ) → a ≡ b → b ≤ c → (c ≡ a → ⊥) → a < c
    below a b c e l n = omega arith
