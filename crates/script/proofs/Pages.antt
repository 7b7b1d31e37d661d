-- Text that is put on a page, and handed on.
use Rattle.std.proofs.Common.{◌≡◌, ℕ, List, [], ◌∷◌, ◌++◌, Some, codes, decimal, Option, sym, ap, ◌∙◌, subst, append_assoc}
use Rattle.std.proofs.lemmas.List.{append-nil}
use Rattle.std.proofs.lemmas.Bool.{ne_eqb, cond-false}
use Rattle.script.specs.declared.page.Page.{Page}
use Rattle.script.specs.Printed.{pending, Wrote, Printed, Prints}
use Rattle.script.specs.Text.{tick_text, count_text, counts_text, as_line}

pub wrote_more : (p q r : Page) (xs ys : List ℕ) → Wrote p q xs → Wrote q r ys → Wrote p r (xs ++ ys)
wrote_more p q r xs ys a b = b ∙ ap (λ s. s ++ ys) a ∙ append_assoc (pending p) xs ys

pub counts_push : (cs : List (Option ℕ)) (c : Option ℕ) → counts_text (cs ++ (c ∷ [])) ≡ counts_text cs ++ count_text c
counts_push [] c = append-nil (count_text c)
counts_push (d ∷ cs) c = ap (λ s. count_text d ++ s) (counts_push cs c) ∙ sym (append_assoc (count_text d) (counts_text cs) (count_text c))

-- a tick in which another runs
pub tick-lent : (o : Option ℕ) (i runs : ℕ) → o ≡ Some i → (runs ≡ i → ⊥) → decimal i ++ (codes " runs " ++ decimal runs) ≡ tick_text o runs
tick-lent o i runs e ne = sym (ap (λ w. tick_text w runs) e ∙ cond-false _ (decimal i) (decimal i ++ (codes " runs " ++ decimal runs)) (ne_eqb runs i ne))

module _ {S : Type 0} (took : S → List ℕ → Type 0) where
  -- what is written on the page is printed
  pub printed-more : (s : S) (p q : Page) (ys : List ℕ) → Wrote p q ys → Prints took s p s q ys
  printed-more s p q ys w xs h =
      record {
        before = h.before;
        taken = h.taken;
        all = ap (λ t. h.before ++ t) w ∙ sym (append_assoc h.before (pending p) ys) ∙ ap (λ t. t ++ ys) h.all;
      }

  -- what is handed on stays printed
  pub printed-on : (s t : S) (p q : Page) (xs : List ℕ) → ((ys : List ℕ) → took s ys → took t (ys ++ pending p)) → pending q ≡ [] → Printed took s p xs → Printed took t q xs
  printed-on s t p q xs takes e h =
      record {
        before = h.before ++ pending p;
        taken = takes h.before h.taken;
        all = ap (λ u. (h.before ++ pending p) ++ u) e ∙ append-nil (h.before ++ pending p) ∙ h.all;
      }

  -- a text, and then the end of its line
  pub printed_line : (s t : S) (p q r : Page) (text : List ℕ) → Wrote p q text → Prints took s q t r (10 ∷ []) → Prints took s p t r (as_line text)
  printed_line s t p q r text w ends xs h =
      let P : List ℕ → Type 0 = λ ys. Printed took t r ys in
      subst P (append_assoc xs text (10 ∷ [])) (ends (xs ++ text) (printed-more s p q text w xs h))
