-- Why the earliest end first is enough: claims that are covered stay so when claims are changed or opened and when a tick
-- passes that is given to one of those which end first; and a claim in its last tick is owed nothing any more.
use Rattle.std.proofs.Common.{◌≡◌, ℕ, ◌+◌, ◌-◌, ◌*◌, ◌<◌, ◌≤◌, min, leb, ◌⊎◌, ap, inl, inr, mul-le-mul_right, mul-le-mul_left, arith}
use Rattle.std.proofs.lemmas.Bool.{cases_lt, cases_eq, cond-true, cond-false, le-leb, lt-leb}
use Rattle.sched.specs.House.{sum}
use Rattle.sched.specs.Demand.{Covered, owed_in, comes_in}
use Rattle.sched.proofs.Sums.{sum-le, sum-add, sum-times, sum-zero, sum-term, sum_lt}

-- i has ended within d, or not
owed-cases : (ends owed : ℕ → ℕ) (d i : ℕ) → ((ends i ≤ d) × (owed_in ends owed d i ≡ owed i)) ⊎ ((d < ends i) × (owed_in ends owed d i ≡ 0))
owed-cases ends owed d i =
    elim (cases_lt d (ends i)) [
      | inl l ↦ inr (l, cond-false (leb (ends i) d) (owed i) 0 (lt-leb (ends i) d l))
      | inr l ↦ inl (l, cond-true (leb (ends i) d) (owed i) 0 (le-leb (ends i) d l))
    ]

pub none-covered : (n : ℕ) (share ends owed : ℕ → ℕ) → ((i : ℕ) → i < n → share i ≡ 0) → ((i : ℕ) → i < n → owed i ≡ 0) → Covered n share ends owed
none-covered n share ends owed s o =
    record {
      shares = let e = sum-zero n share s in omega arith;
      covered = λ d.
          let e = sum-zero n (owed_in ends owed d) (λ i l. let here = o i l in let w = owed-cases ends owed d i in omega arith) in
          omega arith;
    }

-- A claim with share s, end e and o owed is changed: it ends as before, is owed no more, and has no smaller share if it is open;
-- or it was not open and opens with no more owed than its share comes to.
abbrev pub Changes : (s e o s' e' o' : ℕ) → Type 0
Changes s e o s' e' o' = ((e' ≡ e) × (o' ≤ o) × (0 < e → s ≤ s')) ⊎ ((e ≡ 0) × (10080 * o' ≤ s' * e'))

module _ (n : ℕ) (share ends owed share' ends' owed' : ℕ → ℕ) where
  change-one : (d i : ℕ) → Changes (share i) (ends i) (owed i) (share' i) (ends' i) (owed' i) →
      10080 * owed_in ends' owed' d i + comes_in share ends d i ≤ 10080 * owed_in ends owed d i + comes_in share' ends' d i
  change-one d i (inl (e, o, s)) =
      let before = owed-cases ends owed d i in
      let after = owed-cases ends' owed' d i in
      let same : share' i * min d (ends' i) ≡ share' i * min d (ends i) = ap (λ x. share' i * min d x) e in
      elim (cases_eq (ends i) 0) [
        | inl z ↦ let none : share i * min d (ends i) ≡ share i * 0 = ap (λ x. share i * x) (omega arith) in omega arith
        | inr some ↦ let more = mul-le-mul_right (min d (ends i)) (s (omega arith)) in omega arith
      ]
  change-one d i (inr (e, o)) =
      let none : share i * min d (ends i) ≡ share i * 0 = ap (λ x. share i * x) (omega arith) in
      elim (owed-cases ends' owed' d i) [
        | inl (within, is) ↦ let all : share' i * min d (ends' i) ≡ share' i * ends' i = ap (λ x. share' i * x) (omega arith) in omega arith
        | inr (later, is) ↦ omega arith
      ]

  pub change-covered : Covered n share ends owed → sum n share' ≤ 7560 → ((i : ℕ) → i < n → Changes (share i) (ends i) (owed i) (share' i) (ends' i) (owed' i)) → Covered n share' ends' owed'
  change-covered c fit ch =
      record {
        shares = fit;
        covered = λ d.
            let all = sum-le n (λ i. 10080 * owed_in ends' owed' d i + comes_in share ends d i) (λ i. 10080 * owed_in ends owed d i + comes_in share' ends' d i) (λ i l. change-one d i (ch i l)) in
            let left = sum-add n (λ i. 10080 * owed_in ends' owed' d i) (comes_in share ends d) in
            let right = sum-add n (λ i. 10080 * owed_in ends owed d i) (comes_in share' ends' d) in
            let before = sum-times n 10080 (owed_in ends owed d) in
            let after = sum-times n 10080 (owed_in ends' owed' d) in
            let was = c.covered d in
            omega arith;
      }

  -- A tick passes, which may be k's: what is owed to k is one less.
  pub record Passes : Type 0 where
    pub sooner : (i : ℕ) → i < n → ends' i ≡ ends i - 1
    pub share-less : (i : ℕ) → i < n → share' i ≤ share i
    pub share-same : (i : ℕ) → i < n → 0 < ends' i → share' i ≡ share i
    pub owed-less : (i : ℕ) → i < n → owed' i ≤ owed i
    pub over : (i : ℕ) → i < n → ends' i ≡ 0 → owed' i ≡ 0

  -- nothing is owed, or the tick is one's to whom it is and whose claim ends first
  abbrev pub FirstServed : Type 0
  FirstServed = ((i : ℕ) → i < n → owed i ≡ 0) ⊎ ((k : ℕ) × (k < n) × (owed' k < owed k) × ((i : ℕ) → i < n → 0 < owed i → ends k ≤ ends i))

  module _ (p : Passes) where
    owed-one : (d i : ℕ) → i < n → owed_in ends' owed' d i ≤ owed_in ends owed (d + 1) i
    owed-one d i l =
        let before = owed-cases ends owed (d + 1) i in
        let after = owed-cases ends' owed' d i in
        let e = p.sooner i l in
        let o = p.owed-less i l in
        let z = p.over i l in
        omega arith

    comes-one : (d i : ℕ) → i < n → comes_in share ends (d + 1) i ≤ comes_in share' ends' d i + share i
    comes-one d i l =
        let e = p.sooner i l in
        elim (cases_eq (ends' i) 0) [
          | inl z ↦ let few = mul-le-mul_left {m = min (d + 1) (ends i)} {n = 1} (share i) (omega arith) in omega arith
          | inr some ↦
              let more : share i * min (d + 1) (ends i) ≡ share i * (min d (ends' i) + 1) = ap (λ x. share i * x) (omega arith) in
              let same : share' i * min d (ends' i) ≡ share i * min d (ends' i) = ap (λ x. x * min d (ends' i)) (p.share-same i l (omega arith)) in
              omega arith
        ]

    comes-less : (d : ℕ) → Covered n share ends owed → sum n (comes_in share ends (d + 1)) ≤ sum n (comes_in share' ends' d) + 7560
    comes-less d c =
        let all = sum-le n (comes_in share ends (d + 1)) (λ i. comes_in share' ends' d i + share i) (comes-one d) in
        let parts = sum-add n (comes_in share' ends' d) share in
        let fit = c.shares in
        omega arith

    owed_none : (d : ℕ) → ((i : ℕ) → i < n → owed_in ends owed (d + 1) i ≡ 0) → sum n (owed_in ends' owed' d) ≡ 0
    owed_none d z = sum-zero n (owed_in ends' owed' d) (λ i l. let one = owed-one d i l in let none = z i l in omega arith)

    tick-within : (d : ℕ) → Covered n share ends owed → FirstServed → 10080 * sum n (owed_in ends' owed' d) ≤ sum n (comes_in share' ends' d)
    tick-within d c (inl nothing) =
        let none = owed_none d (λ i l. let z = nothing i l in let w = owed-cases ends owed (d + 1) i in omega arith) in
        omega arith
    tick-within d c (inr (k, l, s, f)) =
        elim (cases_lt (d + 1) (ends k)) [
          | inl later ↦
              let none = owed_none d (λ i b. let z = f i b in let w = owed-cases ends owed (d + 1) i in elim (cases_eq (owed i) 0) [ inl e ↦ omega arith | inr more ↦ let far = z (omega arith) in omega arith ]) in
              omega arith
          | inr within ↦
              let e = p.sooner k l in
              let before = owed-cases ends owed (d + 1) k in
              let after = owed-cases ends' owed' d k in
              let fewer = sum_lt n k (owed_in ends' owed' d) (owed_in ends owed (d + 1)) l (omega arith) (owed-one d) in
              let less = comes-less d c in
              let was = c.covered (d + 1) in
              omega arith
        ]

    pub tick-covered : Covered n share ends owed → FirstServed → Covered n share' ends' owed'
    tick-covered c s =
        record {
          shares = let less = sum-le n share' share p.share-less in let fit = c.shares in omega arith;
          covered = λ d. tick-within d c s;
        }

-- With one tick left nothing is owed: shares come to less than a whole tick.
pub last-covered : (n : ℕ) (share ends owed : ℕ → ℕ) → Covered n share ends owed → (i : ℕ) → i < n → ends i ≡ 1 → owed i ≡ 0
last-covered n share ends owed c i l e =
    let small = sum-le n (comes_in share ends 1) share (λ j _. let most = mul-le-mul_left {m = min 1 (ends j)} {n = 1} (share j) (omega arith) in omega arith) in
    let term = sum-term n i (owed_in ends owed 1) l in
    let is = owed-cases ends owed 1 i in
    let was = c.covered 1 in
    let fit = c.shares in
    omega arith
