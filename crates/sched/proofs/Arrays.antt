-- Arrays that stand for functions: what a write and a fresh array stand for.
use Rattle.std.proofs.Common.{◌≡◌, ℕ, ◌<◌, ◌≤◌, List, get_or, set, replicate, sym, ap, ◌∙◌, subst, inl, inr, arith}
use Rattle.std.proofs.lemmas.List.{length-set, length-replicate, get_or-set_same, get_or-set_other, get_or-replicate, get_or_past, get_or_default}
use Rattle.std.proofs.lemmas.Bool.{cases_lt}
use Rattle.sched.specs.House.{put}
use Rattle.sched.specs.Stores.{Reads}
use Rattle.sched.proofs.Puts.{put_both}

module _ {X Y : Type 0} (mean : X → Y) (none : X) where
  -- what is read below 64 doesn't depend on the default
  pub reads_at : {xs : List X} {f : ℕ → Y} (i k : ℕ) (d : X) → k ≡ i → i < 64 → Reads mean none xs f → mean (get_or xs k d) ≡ f i
  reads_at {xs} {f} i k d e l r =
      ap mean (get_or_default xs k d none (omega (arith, r.len))) ∙ (ap (λ j. mean (get_or xs j none)) e ∙ r.at i)

  pub reads-replicate : Reads mean none (replicate 64 none) (λ _. mean none)
  reads-replicate = record { len = length-replicate 64 none; at = λ i. ap mean (all i) }
    where
      all : (i : ℕ) → get_or (replicate 64 none) i none ≡ none
      all i =
          elim (cases_lt i 64) [
            | inl l ↦ get_or-replicate 64 i none none l
            | inr l ↦ get_or_past (replicate 64 none) i none (subst (λ n. n ≤ i) (sym (length-replicate 64 none)) l)
          ]

  -- a write puts what it writes
  pub reads-set : {xs : List X} {f : ℕ → Y} (i : ℕ) (x : X) → i < 64 → Reads mean none xs f → Reads mean none (set xs i x) (put i (mean x) f)
  reads-set {xs} {f} i x l r = record {
    len = length-set xs i x ∙ r.len;
    at = λ j. put_both i (mean x) f j (λ y. mean (get_or (set xs i x) j none) ≡ y) (here j) (else j);
  }
    where
      here : (j : ℕ) → j ≡ i → mean (get_or (set xs i x) j none) ≡ mean x
      here j e = ap (λ k. mean (get_or (set xs i x) k none)) e ∙ ap mean (get_or-set_same xs i x none (omega (arith, r.len)))

      else : (j : ℕ) → (j ≡ i → ⊥) → mean (get_or (set xs i x) j none) ≡ f j
      else j n = ap mean (get_or-set_other xs i j x none n) ∙ r.at j

  -- the same, where what is written and the array have other names
  pub reads-written : {xs ys : List X} {f : ℕ → Y} (i : ℕ) (x : X) (y : Y) → i < 64 → ys ≡ set xs i x → mean x ≡ y → Reads mean none xs f → Reads mean none ys (put i y f)
  reads-written {xs} {ys} {f} i x y l e m r =
      subst (λ z. Reads mean none ys (put i z f)) m (subst (λ zs. Reads mean none zs (put i (mean x) f)) (sym e) (reads-set i x l r))

  -- what stands there already
  pub reads_kept : {xs : List X} {f : ℕ → Y} (i : ℕ) (y : Y) → y ≡ f i → Reads mean none xs f → Reads mean none xs (put i y f)
  reads_kept {xs} {f} i y e r = record {
    len = r.len;
    at = λ j. put_both i y f j (λ z. mean (get_or xs j none) ≡ z) (λ w. r.at j ∙ (ap f w ∙ sym e)) (λ _. r.at j);
  }

  pub reads_same : {xs ys : List X} {f : ℕ → Y} → ys ≡ xs → Reads mean none xs f → Reads mean none ys f
  reads_same {xs} {ys} {f} e r = subst (λ zs. Reads mean none zs f) (sym e) r

  -- two functions that agree everywhere are one
  pub reads-like : {xs : List X} {f g : ℕ → Y} → ((i : ℕ) → f i ≡ g i) → Reads mean none xs f → Reads mean none xs g
  reads-like e r = record { len = r.len; at = λ i. r.at i ∙ e i }
