-- What is kept while it is no more than so many, and a word that is taken in.
use Rattle.std.proofs.Common.{◌≡◌, ℕ, suc, ◌+◌, ◌-◌, ◌<◌, ◌≤◌, true, false, eqb, leb, List, [], ◌∷◌, ◌++◌, length, set, replicate, slice_range, Some, None, Option, MatchOption, Ok, Err, is_ok, is_err, ◌↔◌, OnOk, OnErr, Result, sym, refl, ap, ◌∙◌, append_assoc, ⊎_elim, Bor, arith}
use Rattle.std.proofs.lemmas.Bool.{cases_lt, cond-true, cond-false, le-leb, lt-leb, eqb-true, both_ways}
use Rattle.std.proofs.lemmas.List.{length-append, length-replicate, length_push, set_at, take_at}
use Rattle.std.specs.Slice.{IsGetRangeResult}
use Rattle.script.specs.declared.word.Name.{Name}
use Rattle.script.specs.declared.word.Word.{Word}
use Rattle.script.specs.Grammar.{value_of, number_of}
use Rattle.script.specs.Taken.{at_most, name_of, WordTaken}

module _ {T H : Type 0} (holding : List T → H) where
  pub fits : (n : ℕ) (xs : List T) → length xs ≤ n → at_most n holding xs ≡ Some (holding xs)
  unfolding at_most
  fits n xs l = cond-true (leb (length xs) n) _ None (le-leb (length xs) n l)

  pub over : (n : ℕ) (xs : List T) → n < length xs → at_most n holding xs ≡ None
  unfolding at_most
  over n xs l = cond-false (leb (length xs) n) _ None (lt-leb (length xs) n l)

  some_only : (a b : H) → ◌≡◌ {A = Option H} (Some a) (Some b) → a ≡ b
  some_only a b e = cc

  not_both : (a : H) → ◌≡◌ {A = Option H} None (Some a) → ⊥
  not_both a e = let z : ◌≡◌ {A = ℕ} 0 1 = cc in omega arith

  -- what is kept is all of it
  pub kept : (n : ℕ) (xs : List T) (h : H) → at_most n holding xs ≡ Some h → (length xs ≤ n) × (h ≡ holding xs)
  kept n xs h e =
      ⊎_elim
      (λ (l : n < length xs). absurd (not_both h (sym (over n xs l) ∙ e)))
      (λ (l : length xs ≤ n). (l, some_only h (holding xs) (sym e ∙ fits n xs l)))
      (cases_lt n (length xs))

  pub let_go : (n : ℕ) (xs : List T) → at_most n holding xs ≡ None → n < length xs
  let_go n xs e =
      ⊎_elim
      (λ (l : n < length xs). l)
      (λ (l : length xs ≤ n). absurd (not_both (holding xs) (sym e ∙ fits n xs l)))
      (cases_lt n (length xs))

  -- one more is kept, where there is room
  pub kept-more : (n : ℕ) (xs : List T) (x : T) (h : H) → length xs < n → h ≡ holding (xs ++ (x ∷ [])) → Some h ≡ at_most n holding (xs ++ (x ∷ []))
  kept-more n xs x h l is = ap Some is ∙ sym (fits n (xs ++ (x ∷ [])) (omega (arith, length_push xs x, l)))

  pub full-more : (n : ℕ) (xs : List T) (x : T) → n ≤ length xs → None ≡ at_most n holding (xs ++ (x ∷ []))
  full-more n xs x l = sym (over n (xs ++ (x ∷ [])) (omega (arith, length_push xs x, l)))

  pub none-more : (n : ℕ) (xs : List T) (x : T) → at_most n holding xs ≡ None → None ≡ at_most n holding (xs ++ (x ∷ []))
  none-more n xs x e = sym (over n (xs ++ (x ∷ [])) (omega (arith, length_push xs x, let_go n xs e)))

-- what a `Result` that is or isn't an error says
pub err_says : {A E P : Type 0} (r : Result A E) → is_err r ≡ true → OnErr r P → P
err_says (Ok a) e h = absurd (both_ways false refl e)
err_says (Err x) e h = h

pub ok_says : {A E P : Type 0} (r : Result A E) → is_err r ≡ false → OnOk r P → P
ok_says (Ok a) e h = h
ok_says (Err x) e h = absurd (both_ways true e refl)

pub room_says : {A E P : Type 0} (r : Result A E) → is_err r ≡ false → (is_ok r ≡ true ↔ P) → P
room_says (Ok a) e h = h.0 refl
room_says (Err x) e h = absurd (both_ways true e refl)

-- one byte more of a name
bytes-more : (xs : List ℕ) (b : ℕ) → length xs < 8 → set (xs ++ replicate (8 - length xs) 0) (length xs) b ≡ (xs ++ (b ∷ [])) ++ replicate (8 - length (xs ++ (b ∷ []))) 0
bytes-more xs b l =
    let k : 8 - length xs ≡ suc (7 - length xs) = omega (arith, l) in
    let m : 7 - length xs ≡ 8 - length (xs ++ (b ∷ [])) = omega (arith, length_push xs b) in
    ap (λ n. set (xs ++ replicate n 0) (length xs) b) k
    ∙ set_at xs 0 (replicate (7 - length xs) 0) b (length xs) refl
    ∙ sym (append_assoc xs (b ∷ []) (replicate (7 - length xs) 0))
    ∙ ap (λ n. (xs ++ (b ∷ [])) ++ replicate n 0) m

pub name-more : (h : Name) (xs : List ℕ) (b : ℕ) → h ≡ name_of xs → length xs < 8 → record { bytes = set h.bytes h.len b; len = h.len + 1 } ≡ name_of (xs ++ (b ∷ []))
name-more h xs b e l =
    ap (λ (u : Name). record { bytes = set u.bytes u.len b; len = u.len + 1 }) e
    ∙ ap (λ (s : List ℕ). record { bytes = s; len = length xs + 1 }) (bytes-more xs b l)
    ∙ ap (λ (n : ℕ). record { bytes = (xs ++ (b ∷ [])) ++ replicate (8 - length (xs ++ (b ∷ []))) 0; len = n }) (sym (length_push xs b))

-- what is told of a name is all of it
pub name-told : (r : Option (Bor (List ℕ))) (h : Name) (xs : List ℕ) → (length xs ≤ 8) × (h ≡ name_of xs) → IsGetRangeResult h.bytes 0 h.len r → MatchOption r (8 < length xs) (λ s. s.now ≡ xs)
name-told None h xs k g =
    let n : h.len ≡ length xs = ap (λ (u : Name). u.len) k.1 in
    let m : length h.bytes ≡ length (xs ++ replicate (8 - length xs) 0) = ap (λ (u : Name). length u.bytes) k.1 in
    absurd (both_ways false refl (g.1 (omega arith, omega (arith, k.0, length-append xs (replicate (8 - length xs) 0), length-replicate {A = ℕ} (8 - length xs) 0))))
name-told (Some s) h xs k g = g.0.2 ∙ ap (λ (u : Name). slice_range u.bytes 0 u.len) k.1 ∙ take_at xs (replicate (8 - length xs) 0) (length xs - 0) (omega arith)

pub name-taken : (w : Word) (xs : List ℕ) → WordTaken w xs → at_most 8 name_of xs ≡ w.name
name-taken w xs t = ap (λ (v : Word). v.name) (sym t)

pub value-taken : (w : Word) (xs : List ℕ) → WordTaken w xs → w.value ≡ value_of xs
value-taken w xs t = ap (λ (v : Word). v.value) t

-- a word by its parts
pub as_word : (n : Option Name) (v : Option ℕ) (xs : List ℕ) → n ≡ at_most 8 name_of xs → v ≡ value_of xs → WordTaken (record { name = n; value = v }) xs
as_word n v xs p q = ap (λ (m : Option Name). record { name = m; value = v }) p ∙ ap (λ (u : Option ℕ). record { name = at_most 8 name_of xs; value = u }) q

-- a number has a digit
pub no-number : (xs : List ℕ) → eqb (length xs) 0 ≡ true → None ≡ number_of xs
unfolding number_of
no-number [] e = refl
no-number (x ∷ xs) e = absurd (omega (arith, eqb-true (suc (length xs)) 0 e))

pub some-number : (xs : List ℕ) → eqb (length xs) 0 ≡ false → value_of xs ≡ number_of xs
unfolding number_of
some-number [] e = absurd (both_ways true e refl)
some-number (x ∷ xs) e = refl
