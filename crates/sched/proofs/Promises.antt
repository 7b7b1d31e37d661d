-- The numbers of a kind are good exactly where there is such a promise.
use Rattle.std.proofs.Common.{◌≡◌, ℕ, ◌%◌, ◌<◌, ◌≤◌, true, false, ◌&&◌, eqb, leb, refl, inl, inr}
use Rattle.std.proofs.lemmas.Bool.{cases_Bool, and_from, and_parts, leb-true, le-leb, eqb-true, eq-eqb, lt-ltb, le-ltb}
use Rattle.quantities.specs.Range.{GoodReservation}
use Rattle.quantities.specs.declared.promises.Reservation.{Reservation}
use Rattle.quantities.specs.Ids.{Rank}
use Rattle.quantities.specs.declared.promises.Weight.{Weight}
use Rattle.sched.specs.declared.Kind.TheVariants.{Reserved, Fixed, Fair}
use Rattle.sched.specs.declared.promise.Promise.TheVariants as promised
use Rattle.sched.specs.House.{good}
use Rattle.sched.specs.Stores.{kind_of}

module _ (q p : ℕ) where
  pub reservation-good : GoodReservation q p → good (Reserved q p) ≡ true
  unfolding good
  reservation-good g = rw (le-leb 4 p g.0, le-leb p 10080 g.1, eq-eqb (10080 % p) 0 g.2, le-leb 1 q g.3, le-leb q p g.4) refl

  good-reservation : good (Reserved q p) ≡ true → GoodReservation q p
  unfolding good
  good-reservation e =
      let a = and_parts (leb 4 p && leb p 10080 && eqb (10080 % p) 0 && leb 1 q) (leb q p) e in
      let b = and_parts (leb 4 p && leb p 10080 && eqb (10080 % p) 0) (leb 1 q) a.0 in
      let c = and_parts (leb 4 p && leb p 10080) (eqb (10080 % p) 0) b.0 in
      let d = and_parts (leb 4 p) (leb p 10080) c.0 in
      (leb-true 4 p d.0, leb-true p 10080 d.1, eqb-true (10080 % p) 0 c.1, leb-true 1 q b.1, leb-true q p a.1)

  pub reservation-bad : (GoodReservation q p → ⊥) → good (Reserved q p) ≡ false
  reservation-bad n = elim (cases_Bool (good (Reserved q p))) [ inl e ↦ absurd (n (good-reservation e)) | inr e ↦ e ]

  pub reservation-kind : (r : Reservation) → r.quota ≡ q → r.period ≡ p → kind_of (promised.Reserved r) ≡ Reserved q p
  unfolding kind_of
  reservation-kind r a b = cc

module _ (n : ℕ) where
  pub rank-good : n < 16 → good (Fixed n) ≡ true
  unfolding good
  rank-good l = lt-ltb n 16 l

  pub rank-bad : 16 ≤ n → good (Fixed n) ≡ false
  unfolding good
  rank-bad l = le-ltb n 16 l

  pub rank-kind : (r : Rank) → r.index ≡ n → kind_of (promised.Fixed r) ≡ Fixed n
  unfolding kind_of
  rank-kind r e = cc

  pub weight-good : 1 ≤ n → n ≤ 1024 → good (Fair n) ≡ true
  unfolding good
  weight-good a b = and_from (leb 1 n) (leb n 1024) (le-leb 1 n a) (le-leb n 1024 b)

  good-weight : good (Fair n) ≡ true → (1 ≤ n) × (n ≤ 1024)
  unfolding good
  good-weight e = let a = and_parts (leb 1 n) (leb n 1024) e in (leb-true 1 n a.0, leb-true n 1024 a.1)

  pub weight-bad : (1 ≤ n → n ≤ 1024 → ⊥) → good (Fair n) ≡ false
  weight-bad w =
      elim (cases_Bool (good (Fair n))) [ inl e ↦ absurd (w (good-weight e).0 (good-weight e).1) | inr e ↦ e ]

  pub weight-kind : (r : Weight) → r.value ≡ n → kind_of (promised.Fair r) ≡ Fair n
  unfolding kind_of
  weight-kind r e = cc
