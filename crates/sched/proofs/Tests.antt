-- A test as a fact, `T b`, and as an equation, `b ≡ true`: from each to the other, and through `&&`.
use Rattle.std.proofs.Common.{◌≡◌, Bool, true, false, ◌&&◌, T, sym, refl}
use mathlib.Core.Bool.{false≢true}

pub T_true : (b : Bool) → T b → b ≡ true
T_true true t = refl
T_true false t = absurd t

pub true-T : (b : Bool) → b ≡ true → T b
true-T true e = tt
true-T false e = absurd (false≢true e)

pub and_T : (a b : Bool) → T a → T b → T (a && b)
and_T true b t u = u
and_T false b t u = t

pub and-left-T : (a b : Bool) → T (a && b) → T a
and-left-T true b t = tt
and-left-T false b t = t

pub and-right-T : (a b : Bool) → T (a && b) → T b
and-right-T true b t = t
and-right-T false b t = absurd t

pub and-three : (a b c : Bool) → (a && b && c) ≡ true → (a ≡ true) × (b ≡ true) × (c ≡ true)
and-three true true c e = (refl, refl, e)
and-three true false c e = absurd (false≢true e)
and-three false b c e = absurd (false≢true e)

-- two tests that each imply the other are one
pub same_test : (a b : Bool) → (a ≡ true → b ≡ true) → (b ≡ true → a ≡ true) → a ≡ b
same_test true b f g = sym (f refl)
same_test false true f g = g refl
same_test false false f g = refl
