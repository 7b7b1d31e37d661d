-- How far one fair task is: less than two parts beyond the mark, and not behind it if it wanted the last tick.
-- What making, joining, a mark that moves and a tick had leave of that, over numbers alone.
use Rattle.std.proofs.Common.{◌≡◌, ℕ, ◌+◌, ◌-◌, ◌*◌, ◌/◌, ◌%◌, ◌<◌, ◌≤◌, Bool, true, false, cond, ◌&&◌, eqb, ltb, refl, ⊎_elim, le_trans, mul-le-mul_right, mod-lt, arith}
use mathlib.Core.Bool.{false≢true}
use Rattle.std.proofs.lemmas.Bool.{cases_Bool, cases_lt, or_cases, or_parts, and_parts, and_cases, ltb-true, ltb-false, eqb-true, eqb-false}
use Rattle.sched.specs.House.{less_far}
use Rattle.sched.proofs.Fractions.{near-le-frac, lt-by-whole, lt-by-rest, le-by-rest, ceiling-above, ceiling-below, ceiling-fits, mixed-of-parts}

-- COMPARING. With proper rests the test is the order of the fractions.
pub less-far-true : (f r o g s p : ℕ) → r < o → s < p → less_far f r o g s p ≡ true → (f * o + r) * p < (g * p + s) * o
less-far-true f r o g s p lr ls e =
    ⊎_elim (λ l. lt-by-whole f r o g s p lr (omega arith) (ltb-true f g l))
    (λ l. let both = and_parts (eqb f g) (ltb (r * p) (s * o)) l in lt-by-rest f r o g s p (eqb-true f g both.0) (ltb-true (r * p) (s * o) both.1))
    (or_cases (ltb f g) (eqb f g && ltb (r * p) (s * o)) e)

pub less-far-false : (f r o g s p : ℕ) → r < o → s < p → less_far f r o g s p ≡ false → (g * p + s) * o ≤ (f * o + r) * p
less-far-false f r o g s p lr ls e =
    let parts = or_parts (ltb f g) (eqb f g && ltb (r * p) (s * o)) e in
    let below : g ≤ f = ltb-false f g parts.0 in
    let over : (g < f) → (g * p + s) * o ≤ (f * o + r) * p = λ l. omega (arith, lt-by-whole g s p f r o ls (omega arith) l) in
    ⊎_elim (λ n. over (let apart : f ≡ g → ⊥ = eqb-false f g n in omega arith))
    (λ n. ⊎_elim over (λ l. le-by-rest g s p f r o (omega arith) (ltb-false (r * p) (s * o) n)) (cases_lt g f)) (and_cases (eqb f g) (ltb (r * p) (s * o)) parts.1)

-- ONE TASK of weight w, f and r parts far, with the mark at m and s parts of o.
pub record Position (w f r m s o : ℕ) (wanted : Bool) : Type 0 where
  pub proper : r < w
  pub near : (f * w + r) * o < (m * o + s) * w + 2 * o
  pub reached : wanted ≡ true → (m * o + s) * w ≤ (f * w + r) * o

-- one part beyond the mark, rounded up
pub position-made : (w m s o : ℕ) → 0 < w → s < o → Position w (m + ((s * w + (o - 1)) / o + 1) / w) (((s * w + (o - 1)) / o + 1) % w) m s o false
position-made w m s o pw ls =
    let up : ℕ = (s * w + (o - 1)) / o in
    let near : (m * w + (up + 1)) * o < (m * o + s) * w + 2 * o = omega (arith, ceiling-below (s * w) o (omega arith)) in
    record { proper = mod-lt (up + 1) pw; near = rw mixed-of-parts near; reached = λ e. absurd (false≢true e) }

-- at the mark, rounded up
pub position-joined : (w m s o : ℕ) (b : Bool) → 0 < w → s < o →
    Position w (cond (ltb ((s * w + (o - 1)) / o) w) m (m + 1)) (cond (ltb ((s * w + (o - 1)) / o) w) ((s * w + (o - 1)) / o) 0) m s o b
position-joined w m s o b pw ls =
    let up : ℕ = (s * w + (o - 1)) / o in
    let above : s * w ≤ up * o = ceiling-above (s * w) o (omega arith) in
    let below : up * o < s * w + o = ceiling-below (s * w) o (omega arith) in
    let fits : up ≤ w = ceiling-fits s w o ls in
    let at : (f r : ℕ) → r < w → f * w + r ≡ m * w + up → Position w f r m s o b = λ f r l e.
    record { proper = l; near = rw e (omega arith); reached = λ _. rw e (omega arith) } in
    ⊎_elim (λ e. rw e (at m up (ltb-true up w e) refl)) (λ e. let l : w ≤ up = ltb-false up w e in rw e (at (m + 1) 0 pw (omega arith))) (cases_Bool (ltb up w))

-- the mark moves up, but not beyond who wants
pub position-marked : (w f r m s o n t p : ℕ) (b c : Bool) → t < p → Position w f r m s o b → (m * o + s) * p ≤ (n * p + t) * o → (c ≡ true → (n * p + t) * w ≤ (f * w + r) * p) → Position w f r n t p c
position-marked w f r m s o n t p b c lt at up reached =
    record { proper = at.proper; near = near-le-frac (f * w + r) w (m * o + s) o (n * p + t) p 2 (omega arith) at.near up; reached = reached }

-- one part on, or none
pub stepped : (g : Bool) (w f r : ℕ) → r < w →
    (cond g (cond (eqb (r + 1) w) 0 (r + 1)) r < w) × (cond (g && eqb (r + 1) w) (f + 1) f * w + cond g (cond (eqb (r + 1) w) 0 (r + 1)) r ≡ f * w + r + cond g 1 0)
stepped false w f r l = (l, omega arith)
stepped true w f r l =
    ⊎_elim (λ e. let full : r + 1 ≡ w = eqb-true (r + 1) w e in rw e (omega arith, omega arith))
    (λ e. let open' : r + 1 ≡ w → ⊥ = eqb-false (r + 1) w e in rw e (omega arith, omega arith)) (cases_Bool (eqb (r + 1) w))

-- who isn't beyond the mark may go one part on
pub position-stepped : (g : Bool) (w f r m s o : ℕ) (b : Bool) → s < o → Position w f r m s o b → (g ≡ true → (f * w + r) * o ≤ (m * o + s) * w) →
    Position w (cond (g && eqb (r + 1) w) (f + 1) f) (cond g (cond (eqb (r + 1) w) 0 (r + 1)) r) m s o b
position-stepped g w f r m s o b ls at least =
    let step = stepped g w f r at.proper in
    let near : (f * w + r + cond g 1 0) * o < (m * o + s) * w + 2 * o = nears g at.near least in
    let more : (f * w + r) * o ≤ (f * w + r + cond g 1 0) * o = mul-le-mul_right o (omega arith) in
    record { proper = step.0; near = rw step.1 near; reached = λ e. rw step.1 (le_trans (at.reached e) more) }
  where
    nears : (g : Bool) → (f * w + r) * o < (m * o + s) * w + 2 * o → (g ≡ true → (f * w + r) * o ≤ (m * o + s) * w) → (f * w + r + cond g 1 0) * o < (m * o + s) * w + 2 * o
    nears true near least = omega (arith, least refl)
    nears false near least = omega arith

pub position-either : (j : Bool) (w f r g t m s o : ℕ) (b : Bool) → (j ≡ true → Position w f r m s o b) → (j ≡ false → Position w g t m s o b) → Position w (cond j f g) (cond j r t) m s o b
position-either true w f r g t m s o b yes' no' = yes' refl
position-either false w f r g t m s o b yes' no' = no' refl
