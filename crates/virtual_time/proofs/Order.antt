-- Positions are ordered: being behind is irreflexive and transitive, and not being behind is transitive where weights are positive.
use Rattle.std.proofs.Common.{◌≡◌, ℕ, ◌*◌, ◌<◌, ◌≤◌, sym, ◌∙◌, mul-le-mul_right, mul_assoc, mul_comm, lt_of_mul-lt-mul_right, mul-lt-mul_of_pos_right, mul-zero, le_of_mul-le-mul_right, arith}
use native.Mathlib.Nat.{lt_of_mul-lt-mul_left}
use Rattle.std.proofs.lemmas.Bool.Decides.{nat_tests}
use Rattle.virtual_time.specs.Laws.{BehindIsIrreflexive, BehindIsTransitive, NotBehindIsTransitive, LoweringKeepsOrder}

-- The last two factors of a product change places.
swap : (a b c : ℕ) → a * b * c ≡ a * c * b
swap a b c = mul_assoc a b c ∙ rw (mul_comm b c) (sym (mul_assoc a c b))

-- Fractions compare by products, so less than less is less: r/o < s/p < t/q.
cross-less : (r o s p t q : ℕ) → r * p < s * o → s * q < t * p → r * q < t * o
cross-less r o s p t q a b =
    let first : r * p * q ≤ s * o * q = mul-le-mul_right q (omega arith) in
    let positive : 0 < o = lt_of_mul-lt-mul_left s (omega (arith, mul-zero s)) in
    let second : s * q * o < t * p * o = mul-lt-mul_of_pos_right b positive in
    lt_of_mul-lt-mul_right p (omega (arith, swap r p q, swap s o q, swap t p o))

-- And at most of at most is at most, unless the middle one is of no weight.
cross-most : (r o s p t q : ℕ) → 0 < p → r * p ≤ s * o → s * q ≤ t * p → r * q ≤ t * o
cross-most r o s p t q positive a b =
    let first : r * p * q ≤ s * o * q = mul-le-mul_right q a in
    let second : s * q * o ≤ t * p * o = mul-le-mul_right o b in
    le_of_mul-le-mul_right (omega (arith, swap r p q, swap s o q, swap t p o)) positive

pub behind-is-irreflexive : BehindIsIrreflexive
behind-is-irreflexive f r o = grind (arith, nat_tests)

pub behind-is-transitive : BehindIsTransitive
behind-is-transitive f r o g s p h t q a b =
    let products : r * p < s * o → s * q < t * p → r * q < t * o = cross-less r o s p t q in grind (arith, nat_tests)

pub not-behind-is-transitive : NotBehindIsTransitive
not-behind-is-transitive f r o g s p h t q positive a b =
    let products : t * p ≤ s * q → s * o ≤ r * p → t * o ≤ r * q = λ x y. cross-most t q s p r o positive x y in grind (arith, nat_tests)

pub lowering-keeps-order : LoweringKeepsOrder
lowering-keeps-order f r o g s p by a b = grind (arith, nat_tests)
