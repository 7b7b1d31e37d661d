-- How the words of a line grow with its bytes.
use Rattle.std.proofs.Common.{◌≡◌, ℕ, ◌<◌, true, false, cond, not, ◌&&◌, eqb, ltb, List, [], ◌∷◌, ◌++◌, length, get_or, sym, refl, ap, ◌∙◌, arith}
use Rattle.std.proofs.lemmas.List.{length_push}
use Rattle.std.proofs.lemmas.Bool.{ne_eqb, lt-ltb}
use Rattle.script.specs.Grammar.{on_first, words}

length-on_first : (b : ℕ) (ws : List (List ℕ)) → 0 < length ws → length (on_first b ws) ≡ length ws
length-on_first b [] l = absurd (omega (arith, l))
length-on_first b (w ∷ ws) l = refl

on_first-append : (b : ℕ) (ws vs : List (List ℕ)) → 0 < length ws → on_first b (ws ++ vs) ≡ on_first b ws ++ vs
on_first-append b [] vs l = absurd (omega (arith, l))
on_first-append b (w ∷ ws) vs l = refl

pub words-some : (xs : List ℕ) → 0 < length (words xs)
unfolding words
words-some [] = omega arith
words-some (x ∷ xs) =
    elim (eqb x 32) as (λ t. 0 < length (cond t ([] ∷ words xs) (on_first x (words xs))))
    [ true ↦ omega arith | false ↦ omega (arith, length-on_first x (words xs) (words-some xs), words-some xs) ]

-- a space ends a word
pub words-space : (xs ys : List ℕ) → words (xs ++ (32 ∷ ys)) ≡ words xs ++ words ys
unfolding words
words-space [] ys = refl
words-space (x ∷ xs) ys =
    ap (λ ws. cond (eqb x 32) ([] ∷ ws) (on_first x ws)) (words-space xs ys)
    ∙ elim (eqb x 32) as (λ t. cond t ([] ∷ (words xs ++ words ys)) (on_first x (words xs ++ words ys)) ≡ cond t ([] ∷ words xs) (on_first x (words xs)) ++ words ys)
    [ true ↦ refl | false ↦ on_first-append x (words xs) (words ys) (words-some xs) ]

-- the last of some words, with a byte after it
last_more : List (List ℕ) → ℕ → List (List ℕ)
last_more [] b = []
last_more (w ∷ []) b = (w ++ (b ∷ [])) ∷ []
last_more (w ∷ v ∷ vs) b = w ∷ last_more (v ∷ vs) b

last_more-later : (w : List ℕ) (ws : List (List ℕ)) (b : ℕ) → 0 < length ws → last_more (w ∷ ws) b ≡ w ∷ last_more ws b
unfolding last_more
last_more-later w [] b l = absurd (omega (arith, l))
last_more-later w (v ∷ vs) b l = refl

last_more-on_first : (x : ℕ) (ws : List (List ℕ)) (b : ℕ) → 0 < length ws → on_first x (last_more ws b) ≡ last_more (on_first x ws) b
unfolding last_more
last_more-on_first x [] b l = absurd (omega (arith, l))
last_more-on_first x (w ∷ []) b l = refl
last_more-on_first x (w ∷ v ∷ vs) b l = refl

last_more-push : (vs : List (List ℕ)) (v : List ℕ) (b : ℕ) → last_more (vs ++ (v ∷ [])) b ≡ vs ++ ((v ++ (b ∷ [])) ∷ [])
unfolding last_more
last_more-push [] v b = refl
last_more-push (w ∷ vs) v b = last_more-later w (vs ++ (v ∷ [])) b (omega (arith, length_push vs v)) ∙ ap (λ us. w ∷ us) (last_more-push vs v b)

words-last_more : (xs : List ℕ) (b : ℕ) → eqb b 32 ≡ false → words (xs ++ (b ∷ [])) ≡ last_more (words xs) b
unfolding words last_more
words-last_more [] b ne = ap (λ t. cond t ([] ∷ ([] ∷ [])) ((b ∷ []) ∷ [])) ne
words-last_more (x ∷ xs) b ne =
    ap (λ ws. cond (eqb x 32) ([] ∷ ws) (on_first x ws)) (words-last_more xs b ne)
    ∙ elim (eqb x 32) as (λ t. cond t ([] ∷ last_more (words xs) b) (on_first x (last_more (words xs) b)) ≡ last_more (cond t ([] ∷ words xs) (on_first x (words xs))) b)
    [ true ↦ sym (last_more-later [] (words xs) b (words-some xs)) | false ↦ last_more-on_first x (words xs) b (words-some xs) ]

-- another byte than a space goes to the last word
pub words_more : (xs : List ℕ) (vs : List (List ℕ)) (v : List ℕ) (b : ℕ) → eqb b 32 ≡ false → words xs ≡ vs ++ (v ∷ []) → words (xs ++ (b ∷ [])) ≡ vs ++ ((v ++ (b ∷ [])) ∷ [])
words_more xs vs v b ne e = words-last_more xs b ne ∙ ap (λ ws. last_more ws b) e ∙ last_more-push vs v b

-- a line has no byte if it is one empty word
pub words-begun : (xs : List ℕ) (vs : List (List ℕ)) (v : List ℕ) → words xs ≡ vs ++ (v ∷ []) → ltb 0 (length xs) ≡ not (eqb (length vs) 0 && eqb (length v) 0)
unfolding words
words-begun [] [] v e = let z : [] ≡ v = ap (λ ws. get_or ws 0 []) e in ap (λ u. not (eqb (length u) 0)) z
words-begun [] (w ∷ vs) v e = absurd (omega (arith, ap length e, length_push vs v))
words-begun (x ∷ xs) (w ∷ vs) v e = lt-ltb 0 (length (x ∷ xs)) (omega arith) ∙ sym (ap not (ap (λ t. t && eqb (length v) 0) (ne_eqb (length (w ∷ vs)) 0 (λ z. omega (arith, z)))))
words-begun (x ∷ xs) [] v e =
    lt-ltb 0 (length (x ∷ xs)) (omega arith) ∙
    (elim (eqb x 32) as (λ t. cond t ([] ∷ words xs) (on_first x (words xs)) ≡ v ∷ [] → true ≡ not (eqb (length v) 0)) [
      | true ↦ λ q. absurd (omega (arith, ap length q, words-some xs))
      | false ↦ λ q. ap not (sym (ne_eqb (length v) 0 (λ z. omega (arith, z, ap (λ us. length (get_or us 0 [])) q, some-first x (words xs)))))
    ]) e
  where
    some-first : (x : ℕ) (ws : List (List ℕ)) → 0 < length (get_or (on_first x ws) 0 [])
    some-first x [] = omega arith
    some-first x (w ∷ ws) = omega arith
