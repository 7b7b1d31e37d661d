-- Owners are compared by their numbers: what `==` and `contains` say of options of tasks, in the words of the rules.
use Rattle.std.proofs.Common.{◌≡◌, ℕ, suc, ◌<◌, Bool, true, false, ◌&&◌, eqb, List, length, get_or, Some, None, Option, MatchOption, sym, refl, ◌∙◌, inl, inr, arith}
use Rattle.std.proofs.lemmas.Bool.{ne_eqb, cases_Bool}
use Rattle.std.proofs.lemmas.Bool.Decides.{nat_tests}
use Rattle.std.proofs.lemmas.List.Elements.{All-from_get_or}
use Rattle.std.proofs.lemmas.List.Folds.{list_any_at, list_any_none}
use Rattle.std.specs.List.{list_any}
use Rattle.std.specs.Option.{option_eq}
use Rattle.quantities.specs.Ids.{TaskId}
use Rattle.sched.specs.House.{some'}
use Rattle.sched.specs.Stores.{owner_of}
use Rattle.sched.proofs.Bounded.{some-witness, none-at}

-- numbers are equal where one more than they are
eqb-suc : (a b : ℕ) → eqb a b ≡ eqb (suc a) (suc b)
eqb-suc a b = grind (arith, nat_tests)

and_true : (x : Bool) → (x && true) ≡ x
and_true true = refl
and_true false = refl

module _ (same : TaskId → TaskId → Bool) (by_number : (a b : TaskId) → same a b ≡ (eqb a.index b.index && true)) where
  pub same-owner : (o : Option TaskId) (i : TaskId) → option_eq same o (Some i) ≡ eqb (owner_of o) (suc i.index)
  unfolding owner_of
  same-owner None i = sym (ne_eqb 0 (suc i.index) (omega arith))
  same-owner (Some j) i = by_number j i ∙ (and_true (eqb j.index i.index) ∙ eqb-suc j.index i.index)

-- whether one of a list passes, by its place
pub any-below : {X : Type 0} (p : X → Bool) (q : ℕ → Bool) (d : X) (n : ℕ) (xs : List X) → length xs ≡ n → ((m : ℕ) → m < n → p (get_or xs m d) ≡ q m) → list_any p xs ≡ some' n q
any-below p q d n xs len at =
    elim (cases_Bool (some' n q)) [
      | inl e ↦ let w = some-witness q n e in list_any_at p xs w.0 d (omega (arith, len, w.1)) (at w.0 w.1 ∙ w.2) ∙ sym e
      | inr e ↦ list_any_none p xs (All-from_get_or (λ x. p x ≡ false) xs d (λ m l. at m (omega (arith, len, l)) ∙ none-at q n m e (omega (arith, len, l)))) ∙ sym e
    ]

-- what follows of one that is there
pub some-too : {X : Type 0} (A : Type 0) (P Q : X → Type 0) (o : Option X) → MatchOption o A P → ((x : X) → P x → Q x) → MatchOption o A Q
some-too A P Q None told f = told
some-too A P Q (Some x) told f = f x told
