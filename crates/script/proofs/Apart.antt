-- The text of an answer says which it is.
use Rattle.std.proofs.Common.{◌≡◌, ℕ, ◌^◌, ◌<◌, Bool, true, false, cond, eqb, List, [], ◌∷◌, ◌++◌, length, get_or, drop, Some, None, codes, decimal, sym, refl, ap, ◌∙◌, arith}
use Rattle.std.proofs.lemmas.Fmt.{decimal_injective, digits_decimal}
use Rattle.std.proofs.lemmas.Bool.{eqb-true, false≢true}
use Rattle.sched.specs.declared.Answer.TheVariants.{Done, Id, No}
use Rattle.script.specs.Grammar.{words, all_digits}
use Rattle.script.specs.Text.{tick_text}
use Rattle.script.specs.Laws.{AnswersApart, TicksApart}
use Rattle.script.proofs.Parsing.{numerals, number_word}
use Rattle.script.proofs.Splitting.{words-space}

same_number : (m n : ℕ) → m < 2 ^ 32 → n < 2 ^ 32 → decimal m ≡ decimal n → m ≡ n
same_number m n k l e = decimal_injective m n (omega (arith, k)) (omega (arith, l)) e

first : List ℕ → ℕ
first xs = get_or xs 0 0

pub answers-apart : AnswersApart
unfolding first
answers-apart Done Done k l e = refl
answers-apart Done (Id j) k l e = absurd (omega (arith, ap first e))
answers-apart Done (No j) k l e = absurd (omega (arith, ap first e))
answers-apart (Id i) Done k l e = absurd (omega (arith, ap first e))
answers-apart (Id i) (Id j) k l e = ap Id (same_number i j k l (ap (drop 3) e))
answers-apart (Id i) (No j) k l e = absurd (omega (arith, ap first e))
answers-apart (No i) Done k l e = absurd (omega (arith, ap first e))
answers-apart (No i) (Id j) k l e = absurd (omega (arith, ap first e))
answers-apart (No i) (No j) k l e = ap No (same_number i j k l (ap (drop 3) e))

-- the words of a tick that is one's
own_words : ℕ → ℕ → Bool → List (List ℕ)
own_words i r own = cond own (decimal i ∷ []) (decimal i ∷ codes "runs" ∷ decimal r ∷ [])

tick-words : (i r : ℕ) → i < 2 ^ 32 → r < 2 ^ 32 → words (tick_text (Some i) r) ≡ own_words i r (eqb r i)
unfolding own_words words
tick-words i r k l =
    elim (eqb r i) as (λ t. words (cond t (decimal i) (decimal i ++ (codes " runs " ++ decimal r))) ≡ cond t (decimal i ∷ []) (decimal i ∷ codes "runs" ∷ decimal r ∷ [])) [
      | true ↦ number_word i k
      | false ↦ words-space (decimal i) (codes "runs " ++ decimal r) ∙ ap (λ ws. ws ++ words (codes "runs " ++ decimal r)) (number_word i k) ∙ ap (λ ws. decimal i ∷ codes "runs" ∷ ws) (number_word r l)
    ]

first-own : (i r : ℕ) (own : Bool) → get_or (own_words i r own) 0 [] ≡ decimal i
unfolding own_words
first-own i r true = refl
first-own i r false = refl

-- who runs is told by the words
same_runs : (i r s : ℕ) (t u : Bool) → r < 2 ^ 32 → s < 2 ^ 32 → (t ≡ true → r ≡ i) → (u ≡ true → s ≡ i) → own_words i r t ≡ own_words i s u → r ≡ s
unfolding own_words
same_runs i r s true true k l p q e = p refl ∙ sym (q refl)
same_runs i r s true false k l p q e = absurd (omega (arith, ap length e))
same_runs i r s false true k l p q e = absurd (omega (arith, ap length e))
same_runs i r s false false k l p q e = same_number r s k l (ap (λ ws. get_or ws 2 []) e)

no-dash : (i r : ℕ) → i < 2 ^ 32 → r < 2 ^ 32 → codes "-" ≡ tick_text (Some i) r → ⊥
unfolding words all_digits
no-dash i r k l e =
    let w : decimal i ≡ codes "-" = sym (ap (λ ws. get_or ws 0 []) (ap words e ∙ tick-words i r k l) ∙ first-own i r (eqb r i)) in
    false≢true (sym (ap all_digits w) ∙ digits_decimal numerals i (omega (arith, k)))

pub ticks-apart : TicksApart
ticks-apart None None r s k l e = (refl, λ b. absurd (false≢true b))
ticks-apart None (Some j) r s k (l, m) e = absurd (no-dash j s l m e)
ticks-apart (Some i) None r s (k, n) l e = absurd (no-dash i r k n (sym e))
ticks-apart (Some i) (Some j) r s (k, n) (l, m) e =
    let w : own_words i r (eqb r i) ≡ own_words j s (eqb s j) = sym (tick-words i r k n) ∙ ap words e ∙ tick-words j s l m in
    let same : i ≡ j = same_number i j k l (sym (first-own i r (eqb r i)) ∙ ap (λ ws. get_or ws 0 []) w ∙ first-own j s (eqb s j)) in (
      ap Some same,
      λ _. same_runs i r s (eqb r i) (eqb s j) n m (λ b. eqb-true r i b) (λ b. eqb-true s j b ∙ sym same) (w ∙ ap (λ h. own_words h s (eqb s j)) (sym same)),
    )
