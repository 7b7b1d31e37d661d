-- Fractions with positive denominators, compared by products: x / v ≤ y / w is x * w ≤ y * v.
-- A mixed number f and r parts of o is the fraction (f * o + r) / o.
use Rattle.std.proofs.Common.{◌≡◌, ℕ, ◌+◌, ◌-◌, ◌*◌, ◌/◌, ◌%◌, ◌<◌, ◌≤◌, subst, mul-le-mul_right, mod-lt, div-lt_iff_lt-mul, mul-lt-mul_of_pos_right, le_of_mul-le-mul_right, arith}
use native.Mathlib.Nat.{lt_of_mul-lt-mul_left, div-add-mod}

-- x / v ≤ y / w ≤ z / u
pub le-trans-frac : (x v y w z u : ℕ) → 0 < w → x * w ≤ y * v → y * u ≤ z * w → x * u ≤ z * v
le-trans-frac x v y w z u pw h k = le_of_mul-le-mul_right {k = w} (omega (arith, mul-le-mul_right u h, mul-le-mul_right v k)) pw

-- x / v < y / w + k / v and y / w ≤ z / u
pub near-le-frac : (x v y w z u k : ℕ) → 0 < u → x * w < y * v + k * w → y * u ≤ z * w → x * u < z * v + k * u
near-le-frac x v y w z u k pu h l = lt_of_mul-lt-mul_left w (omega (arith, mul-le-mul_right u h, mul-le-mul_right v l))

-- of mixed numbers with proper rests a smaller whole is less
pub lt-by-whole : (f r o g s p : ℕ) → r < o → 0 < p → f < g → (f * o + r) * p < (g * p + s) * o
lt-by-whole f r o g s p lr pp lf =
    omega (arith, mul-lt-mul_of_pos_right {k = p} lr pp, mul-le-mul_right (o * p) lf)

pub lt-by-rest : (f r o g s p : ℕ) → f ≡ g → r * p < s * o → (f * o + r) * p < (g * p + s) * o
lt-by-rest f r o g s p e l = let P : ℕ → Type 0 = λ x. (f * o + r) * p < (x * p + s) * o in subst P e (omega arith)

pub le-by-rest : (f r o g s p : ℕ) → f ≡ g → r * p ≤ s * o → (f * o + r) * p ≤ (g * p + s) * o
le-by-rest f r o g s p e l = let P : ℕ → Type 0 = λ x. (f * o + r) * p ≤ (x * p + s) * o in subst P e (omega arith)

-- the ceiling of z / o is at least that, and less than one beyond
pub ceiling-above : (z o : ℕ) → 0 < o → z ≤ (z + (o - 1)) / o * o
ceiling-above z o po = omega (arith, div-add-mod (z + (o - 1)) o, mod-lt (z + (o - 1)) po)

pub ceiling-below : (z o : ℕ) → 0 < o → (z + (o - 1)) / o * o < z + o
ceiling-below z o po = omega (arith, div-add-mod (z + (o - 1)) o)

-- the ceiling of r * w / o for a proper rest is at most w
pub ceiling-fits : (r w o : ℕ) → r < o → (r * w + (o - 1)) / o ≤ w
ceiling-fits r w o lr =
    let po : 0 < o = omega arith in
    let below : (r * w + (o - 1)) / o < w + 1 = (div-lt_iff_lt-mul po).1 (omega (arith, mul-le-mul_right w lr)) in
    omega arith

-- whole part and rest of z parts of w make z parts
pub mixed-of-parts : (m z w : ℕ) → (m + z / w) * w + z % w ≡ m * w + z
mixed-of-parts m z w = omega (arith, div-add-mod z w)
