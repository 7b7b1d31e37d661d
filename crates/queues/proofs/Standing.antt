-- What follows for everybody from the fact that a state stands for queues: for callers, and for the proofs of the calls.
use Rattle.std.proofs.Common.{◌≡◌, ℕ, List, sym, ◌∙◌, subst}
use mathlib.Core.Path.{fun_ext}
use Rattle.queues.specs.declared.fifo.Queues.{Queues}
use Rattle.queues.specs.Members.{Member}
use Rattle.queues.specs.Rings.{Holds}

module _ {s : Queues} {f : ℕ → List ℕ} (h : Holds s f) where
  -- nobody stands in two queues
  pub in_one : (i a b : ℕ) → Member i (f a) → Member i (f b) → a ≡ b
  in_one i a b m n = sym (h.place a i m) ∙ h.place b i n

  -- queues that are the same in every place are held too
  pub holds_same : {g : ℕ → List ℕ} → ((q : ℕ) → f q ≡ g q) → Holds s g
  holds_same e = subst (λ (k : ℕ → List ℕ). Holds s k) (fun_ext e) h
