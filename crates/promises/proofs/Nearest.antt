-- A strict bound between multiples of d leaves d to spare.
use Rattle.std.proofs.Common.{◌≡◌, ℕ, ◌+◌, ◌*◌, ◌<◌, ◌≤◌, sym, ◌∙◌, mul-le-mul_right, le_of_mul-le-mul_right, arith}
use native.Mathlib.Nat.{lt_of_mul-lt-mul_left}
use Rattle.sched.specs.House.{weight_of}
use Rattle.sched.proofs.model.Fairness.{strictly-nearer}
use Rattle.promises.specs.Nearest.{NearestEachOther, EqualsKeepPace}

spared : (a b d m n v w : ℕ) → v ≡ m * d → w ≡ n * d → a * w < b * v + 2 * v + w → a * w + d ≤ b * v + 2 * v + w
spared a b d m n v w ev ew l =
    let scaled = rw (ev, ew) at l in
    let parts : a * n < b * m + 2 * m + n = lt_of_mul-lt-mul_left d (omega arith) in
    rw (ev, ew) (omega (arith, mul-le-mul_right d parts))

pub nearest-each-other : NearestEachOther
nearest-each-other i j h a b s d m n heavy ev ew =
    spared a b d m n (weight_of (h.place i)) (weight_of (h.place j)) ev ew (strictly-nearer i j h a b s heavy)

pub equals-keep-pace : EqualsKeepPace
equals-keep-pace i j h a b s heavy e =
    let v = weight_of (h.place i) in
    let one : v ≡ 1 * v = omega arith in
    let near : a * v + v ≤ b * v + 2 * v + v = rw (sym e) at (nearest-each-other i j h a b s v 1 1 heavy one (sym e ∙ one)) in
    le_of_mul-le-mul_right {k = v} (omega arith) heavy
