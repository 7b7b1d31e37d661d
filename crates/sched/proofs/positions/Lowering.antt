-- Positions taken down: less a greater base, what is kept of each is what is left above it.
use Rattle.std.proofs.Common.{◌≡◌, ℕ, ◌+◌, ◌<◌, ◌≤◌, ltb, ◌⊎◌, List, length, get_or, set, sym, refl, ap, ◌∙◌, subst, inl, inr, ⊎_elim, arith}
use Rattle.std.proofs.lemmas.List.{length-set, get_or-set_same, get_or-set_other}
use Rattle.std.proofs.lemmas.Bool.{cases_lt, cases_eq, lt-ltb, le-ltb, cond_both}
use Rattle.virtual_time.specs.declared.position.Position.{Position}
use Rattle.virtual_time.specs.Positions.{lowered_far, lowered_rest}
use Rattle.sched.specs.House.{Place, weight_of}
use Rattle.sched.specs.Stores.{Near, Stands, Exact, AllStand}

-- one position, beyond what is taken off or not
stands-lowered : (base by w f r : ℕ) (p q : Position) → Stands base w f r p → q.weight ≡ p.weight → q.whole ≡ lowered_far p.whole by → q.rest ≡ lowered_rest p.whole p.rest by → Stands (base + by) w f r q
stands-lowered base by w f r p q stands weight whole rest = record { weight = ap (λ v. v.value) weight ∙ stands.weight; near = go stands.near (cases_lt p.whole by) }
  where
    gone : p.whole < by → q.rest ≡ 0
    gone l = rw (lt-ltb p.whole by l) at rest

    go : Near base f r p.whole p.rest → (p.whole < by) ⊎ (by ≤ p.whole) → Near (base + by) f r q.whole q.rest
    go (inl (x, y)) (inl l) = inr (omega arith, omega arith, gone l)
    go (inl (x, y)) (inr l) = let same : q.rest ≡ p.rest = rw (le-ltb p.whole by l) at rest in inl (omega arith, y ∙ sym same)
    go (inr (l, zw, zp)) _ = inr (omega arith, omega arith, rest ∙ cond_both (ltb p.whole by) 0 p.rest (λ x. x ≡ 0) (λ _. refl) (λ _. zp))

-- the mark, by as much as it has
pub mark-lowered : {base w f r : ℕ} (by : ℕ) (p q : Position) → by ≡ p.whole → Exact base w f r p → q.weight ≡ p.weight → q.whole ≡ lowered_far p.whole by → q.rest ≡ lowered_rest p.whole p.rest by →
    Exact (base + by) w f r q × (q.whole ≡ 0)
mark-lowered by p q e at weight whole rest =
    let same : q.rest ≡ p.rest = rw (le-ltb p.whole by (omega arith)) at rest in
    (record { weight = ap (λ v. v.value) weight ∙ at.weight; whole = omega (arith, at.whole); part = at.part ∙ sym same }, omega arith)

-- Below k positions are taken down, from k on they aren't yet.
pub record Lowers (base by k : ℕ) (positions : List Position) (place : ℕ → Place) (far rest : ℕ → ℕ) : Type 0 where
  pub len : length positions ≡ 64
  pub done : (i : ℕ) (d : Position) → i < 64 → i < k → 0 < weight_of (place i) → Stands (base + by) (weight_of (place i)) (far i) (rest i) (get_or positions i d)
  pub left : (i : ℕ) (d : Position) → i < 64 → k ≤ i → 0 < weight_of (place i) → Stands base (weight_of (place i)) (far i) (rest i) (get_or positions i d)

module _ {base by : ℕ} {positions : List Position} {place : ℕ → Place} {far rest : ℕ → ℕ} where
  pub lowers-all : {k : ℕ} → 64 ≤ k → Lowers base by k positions place far rest → AllStand (base + by) positions place far rest
  lowers-all past at = record { len = at.len; each = λ i d l. at.done i d l (omega arith) }

  pub lowers-more : (k : ℕ) (d : Position) (q : Position) → k < 64 → q.weight ≡ (get_or positions k d).weight → q.whole ≡ lowered_far (get_or positions k d).whole by → q.rest ≡ lowered_rest (get_or positions k d).whole (get_or positions k d).rest by →
      Lowers base by k positions place far rest → Lowers base by (k + 1) (set positions k q) place far rest
  lowers-more k d q lk weight whole rest' at =
      record {
        len = length-set positions k q ∙ at.len;
        done = λ i e l li heavy. ⊎_elim (λ same. here i e same heavy) (λ n. subst (λ p. Stands (base + by) (weight_of (place i)) (far i) (rest i) p) (sym (get_or-set_other positions k i q e n)) (at.done i e l (omega arith) heavy)) (cases_eq i k);
        left = λ i e l li heavy. let n : i ≡ k → ⊥ = λ same. omega arith in subst (λ p. Stands base (weight_of (place i)) (far i) (rest i) p) (sym (get_or-set_other positions k i q e n)) (at.left i e l (omega arith) heavy);
      }
    where
      here : (i : ℕ) (e : Position) → i ≡ k → 0 < weight_of (place i) → Stands (base + by) (weight_of (place i)) (far i) (rest i) (get_or (set positions k q) i e)
      here i e same heavy =
          subst (λ x. Stands (base + by) (weight_of (place x)) (far x) (rest x) (get_or (set positions k q) x e)) (sym same)
          (subst (λ p. Stands (base + by) (weight_of (place k)) (far k) (rest k) p) (sym (get_or-set_same positions k q e (omega (arith, at.len))))
          (stands-lowered base by (weight_of (place k)) (far k) (rest k) (get_or positions k d) q (at.left k d lk (omega arith) (subst (λ x. 0 < weight_of (place x)) same heavy)) weight whole rest'))
