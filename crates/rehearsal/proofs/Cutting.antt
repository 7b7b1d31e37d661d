-- What a text is cut into, by where the byte first stands.
use Rattle.std.proofs.Common.{◌≡◌, ℕ, zero, suc, ◌+◌, ◌-◌, ◌<◌, true, false, eqb, List, [], ◌∷◌, length, get_or, take, drop, refl, add-one, arith, length-drop}
use Rattle.std.proofs.lemmas.List.{take_all}
use Rattle.std.proofs.lemmas.Bool.Decides.{nat_tests}
use Rattle.rehearsal.specs.Cuts.{cut}

-- nowhere before n
abbrev pub Free : ℕ → List ℕ → ℕ → Type 0
Free by xs n = (k : ℕ) → k < n → get_or xs k 0 ≡ by → ⊥

cut-here : (by : ℕ) (xs : List ℕ) (n : ℕ) → n < length xs → get_or xs n 0 ≡ by → Free by xs n → cut by xs ≡ take n xs ∷ cut by (drop (suc n) xs)
unfolding cut
cut-here by [] n l e f = absurd (omega arith)
cut-here by (x ∷ xs) zero l e f = let t : eqb x by ≡ true = grind (arith, nat_tests, e) in rw t refl
cut-here by (x ∷ xs) (suc n) l e f =
    let t : eqb x by ≡ false = grind (arith, nat_tests, f 0) in
    rw (t, cut-here by xs n (omega arith) e (λ k m. f (suc k) (omega arith))) refl

-- as the code cuts it
pub cut_at :
    (by : ℕ) (xs : List ℕ) (n : ℕ) → n < length xs → get_or xs n 0 ≡ by → Free by xs n →
    cut by xs ≡ take n xs ∷ cut by (take (length xs - (n + 1)) (drop (n + 1) xs))
cut_at by xs n l e f =
    let s : take (length xs - (n + 1)) (drop (n + 1) xs) ≡ drop (n + 1) xs = take_all (length xs - (n + 1)) (drop (n + 1) xs) (omega (arith, length-drop (n + 1) xs)) in
    rw (s, add-one) (cut-here by xs n l e f)

pub cut-nowhere : (by : ℕ) (xs : List ℕ) → Free by xs (length xs) → cut by xs ≡ xs ∷ []
unfolding cut
cut-nowhere by [] f = refl
cut-nowhere by (x ∷ xs) f =
    let t : eqb x by ≡ false = grind (arith, nat_tests, f 0) in
    rw (t, cut-nowhere by xs (λ k m. f (suc k) (omega arith))) refl
