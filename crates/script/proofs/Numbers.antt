-- What digits come to as a byte is put after them.
use Rattle.std.proofs.Common.{◌≡◌, ℕ, ◌+◌, ◌-◌, ◌*◌, ◌^◌, ◌<◌, ◌≤◌, Bool, true, false, cond, ◌&&◌, ltb, leb, ◌⊎◌, List, [], ◌∷◌, ◌++◌, Some, None, Option, sym, refl, ap, ◌∙◌, inl, inr, ⊎_elim, arith}
use mathlib.Core.Bool.{and-true, and_assoc}
use Rattle.std.proofs.lemmas.Bool.{and_parts, and_cases, and_left, and_right, and_from, cond-true, cond-false, ltb-true, ltb-false, cases_lt, lt-ltb, le-ltb, lt-leb, le-leb}
use Rattle.std.specs.Option.{SomeIff}
use Rattle.std.specs.Char.{NotDecimalDigitIn, IsDigitOf}
use Rattle.std.specs.Int.{IsInRange}
use Rattle.script.specs.Grammar.{is_digit, all_digits, value_after, value_of}

all_digits-push : (xs : List ℕ) (b : ℕ) → all_digits (xs ++ (b ∷ [])) ≡ (all_digits xs && is_digit b)
unfolding all_digits
all_digits-push [] b = and-true (is_digit b)
all_digits-push (x ∷ xs) b = ap (λ t. is_digit x && t) (all_digits-push xs b) ∙ sym (and_assoc (is_digit x) (all_digits xs) (is_digit b))

value_after_push : (n : ℕ) (xs : List ℕ) (b : ℕ) → value_after n (xs ++ (b ∷ [])) ≡ value_after n xs * 10 + (b - 48)
unfolding value_after
value_after_push n [] b = refl
value_after_push n (x ∷ xs) b = value_after_push (n * 10 + (x - 48)) xs b

pub none≢some : (v : ℕ) → ◌≡◌ {A = Option ℕ} None (Some v) → ⊥
none≢some v e = let z : ◌≡◌ {A = ℕ} 0 1 = cc in omega arith

some-if : (t : Bool) (a v : ℕ) → cond t (Some a) None ≡ Some v → (t ≡ true) × (a ≡ v)
some-if true a v e = (refl, cc)
some-if false a v e = absurd (none≢some v e)

none-if : (t : Bool) (a : ℕ) → cond t (Some a) None ≡ None → t ≡ false
none-if true a e = absurd (none≢some a (sym e))
none-if false a e = refl

-- digits that come to v, which is below 2^32
pub record Reads (xs : List ℕ) (v : ℕ) : Type 0 where
  pub digits : all_digits xs ≡ true
  pub value : value_after 0 xs ≡ v
  pub small : v < 2 ^ 32

pub reads-from : (xs : List ℕ) (v : ℕ) → value_of xs ≡ Some v → Reads xs v
unfolding value_of
reads-from xs v e =
    let p = some-if (all_digits xs && ltb (value_after 0 xs) (2 ^ 32)) (value_after 0 xs) v e in
    let q = and_parts (all_digits xs) (ltb (value_after 0 xs) (2 ^ 32)) p.0 in
    let l = ltb-true (value_after 0 xs) (2 ^ 32) q.1 in
    record { digits = q.0; value = p.1; small = omega (arith, l, p.1) }

pub value_of-reads : (xs : List ℕ) (v : ℕ) → Reads xs v → value_of xs ≡ Some v
unfolding value_of
value_of-reads xs v r =
    cond-true _ (Some (value_after 0 xs)) None (and_from _ _ r.digits (lt-ltb (value_after 0 xs) (2 ^ 32) (omega (arith, r.value, r.small))))
    ∙ ap Some r.value

value_of-other : (xs : List ℕ) → all_digits xs ≡ false → value_of xs ≡ None
unfolding value_of
value_of-other xs e = cond-false _ (Some (value_after 0 xs)) None (and_left _ _ e)

value_of-large : (xs : List ℕ) → 2 ^ 32 ≤ value_after 0 xs → value_of xs ≡ None
unfolding value_of
value_of-large xs l = cond-false _ (Some (value_after 0 xs)) None (and_right (all_digits xs) _ (le-ltb (value_after 0 xs) (2 ^ 32) l))

none_from : (xs : List ℕ) → value_of xs ≡ None → (all_digits xs ≡ false) ⊎ (2 ^ 32 ≤ value_after 0 xs)
unfolding value_of
none_from xs e =
    ⊎_elim (λ f. inl f) (λ f. inr (ltb-false (value_after 0 xs) (2 ^ 32) f))
    (and_cases (all_digits xs) (ltb (value_after 0 xs) (2 ^ 32)) (none-if _ (value_after 0 xs) e))

-- a byte that is no digit
pub other-more : (xs : List ℕ) (b : ℕ) → is_digit b ≡ false → value_of (xs ++ (b ∷ [])) ≡ None
other-more xs b e = value_of-other (xs ++ (b ∷ [])) (all_digits-push xs b ∙ and_right (all_digits xs) (is_digit b) e)

-- no number becomes one
pub none_more : (xs : List ℕ) (b : ℕ) → value_of xs ≡ None → value_of (xs ++ (b ∷ [])) ≡ None
none_more xs b e =
    ⊎_elim
    (λ f. value_of-other (xs ++ (b ∷ [])) (all_digits-push xs b ∙ and_left (all_digits xs) (is_digit b) f))
    (λ l. value_of-large (xs ++ (b ∷ [])) (omega (arith, value_after_push 0 xs b, l)))
    (none_from xs e)

-- one digit more, if that isn't too much
pub some_more : (xs : List ℕ) (b v : ℕ) → value_of xs ≡ Some v → is_digit b ≡ true → v * 10 + (b - 48) < 2 ^ 32 → value_of (xs ++ (b ∷ [])) ≡ Some (v * 10 + (b - 48))
some_more xs b v e d l =
    let r = reads-from xs v e in
    value_of-reads (xs ++ (b ∷ [])) (v * 10 + (b - 48))
    (record { digits = all_digits-push xs b ∙ and_from _ _ r.digits d; value = value_after_push 0 xs b ∙ ap (λ n. n * 10 + (b - 48)) r.value; small = l })

pub over-more : (xs : List ℕ) (b v : ℕ) → value_of xs ≡ Some v → 2 ^ 32 ≤ v * 10 + (b - 48) → value_of (xs ++ (b ∷ [])) ≡ None
over-more xs b v e l =
    value_of-large (xs ++ (b ∷ [])) (omega (arith, value_after_push 0 xs b, ap (λ n. n * 10 + (b - 48)) (reads-from xs v e).value, l))

-- what `checked_add` answers is what the digits come to
pub added : (r : Option ℕ) (xs : List ℕ) (b v t d : ℕ) → value_of xs ≡ Some v → is_digit b ≡ true → t ≡ v * 10 → d ≡ b - 48 → SomeIff r (t + d < 2 ^ 32) (t + d) → r ≡ value_of (xs ++ (b ∷ []))
added None xs b v t d e is p q h = sym (over-more xs b v e (omega (arith, h)))
added (Some x) xs b v t d e is p q h = let l = h.0 in ap Some (h.1 ∙ omega arith) ∙ sym (some_more xs b v e is (omega arith))

-- a byte that `to_digit` has no digit for, and one that it has
pub no_digit : (b : ℕ) → NotDecimalDigitIn 10 b → is_digit b ≡ false
no_digit b h =
    ⊎_elim
    (λ (l : b < 48). and_left (leb 48 b) (leb b 57) (lt-leb 48 b l))
    (λ (l : 48 ≤ b).
    ⊎_elim
    (λ (m : 57 < b). and_right (leb 48 b) (leb b 57) (lt-leb b 57 m))
    (λ (m : b ≤ 57). absurd (omega (arith, h l m, m)))
    (cases_lt 57 b))
    (cases_lt b 48)

pub digit : (b d : ℕ) → IsDigitOf b d → d < 10 → (is_digit b ≡ true) × (d ≡ b - 48)
digit b d h l =
    ⊎_elim
    (λ (p : IsInRange 48 57 b × (48 + d ≡ b)). (and_from (leb 48 b) (leb b 57) (le-leb 48 b p.0.0) (le-leb b 57 p.0.1), omega (arith, p.1)))
    (λ q. absurd (⊎_elim (λ (p : IsInRange 65 90 b × (55 + d ≡ b)). omega (arith, p.0.0, p.1, l)) (λ (p : IsInRange 97 122 b × (87 + d ≡ b)). omega (arith, p.0.0, p.1, l)) q))
    h
