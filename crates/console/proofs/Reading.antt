-- What is read in pieces.
use Rattle.std.proofs.Common.{◌≡◌, ℕ, List, [], ◌∷◌, ◌++◌, Some, None, Option, sym, ap, ◌∙◌, append_assoc, append-nil}
use Rattle.std.specs.Io.KnownBytes.{Consumes}
use Rattle.std.specs.List.{concat}

concat-push : (ps : List (List ℕ)) (x : List ℕ) → concat (ps ++ (x ∷ [])) ≡ concat ps ++ x
concat-push [] x = append-nil x
concat-push (p ∷ ps) x = ap (λ s. p ++ s) (concat-push ps x) ∙ sym (append_assoc p (concat ps) x)

-- one piece more, after those that came before it
pub one-more : (a b c : Option (List ℕ)) (ps : List (List ℕ)) (x : List ℕ) → Consumes a b (concat ps) → Consumes b c x → Consumes a c (concat (ps ++ (x ∷ [])))
one-more None b c ps x p q = tt
one-more (Some v) None c ps x p q = absurd p
one-more (Some v) (Some w) None ps x p q = absurd q
one-more (Some v) (Some w) (Some z) ps x p q = p ∙ ap (λ s. concat ps ++ s) q ∙ sym (append_assoc (concat ps) x z) ∙ ap (λ s. s ++ z) (sym (concat-push ps x))
