-- What the next part, or that there is none, settles.
use Rattle.std.proofs.Common.{◌≡◌, ℕ, suc, ◌+◌, ◌-◌, ◌<◌, ◌≤◌, Bool, true, false, cond, not, ◌&&◌, List, [], ◌∷◌, is_some, Some, None, Option, MatchOption, sym, refl, arith, Bor}
use Rattle.rehearsal.specs.Cuts.{cut}
use Rattle.rehearsal.specs.Expected.{is_tick, ticks_of, after_ticks, word_meets, words_meet, following, more, only_if_left, first_apart, Found}

-- the next part of these was given, or there was none, and those are left
abbrev pub Next : List (List ℕ) → Option (Bor (List ℕ)) → List (List ℕ) → Type 0
Next us r ds = MatchOption r ((us ≡ []) × (ds ≡ [])) (λ p. us ≡ p.now ∷ ds)

-- what was found of it, if there was one
abbrev pub Passed : Option (Bor (List ℕ)) → Bool → (Bor (List ℕ) → Type 0) → Type 0
Passed r b Q = MatchOption r (b ≡ false) Q

one_less : (m k : ℕ) → k < m → m - k ≡ suc (m - (k + 1))
one_less m k l = omega arith

pub next-tick :
    (m k : ℕ) (us ds : List (List ℕ)) (r : Option (Bor (List ℕ))) (b : Bool) (Q : Bor (List ℕ) → Type 0) → k < m → Next us r ds → Passed r b Q → ((p : Bor (List ℕ)) → Q p → b ≡ is_tick p.now) →
    after_ticks (m - k) us ≡ cond b (after_ticks (m - (k + 1)) ds) None
unfolding after_ticks
next-tick m k us ds None b Q l e t f = rw (e.0, t, one_less m k l) refl
next-tick m k us ds (Some p) b Q l e t f = rw (e, f p t, one_less m k l) refl

pub all-ticks : (m k : ℕ) (xs : List (List ℕ)) → m ≤ k → after_ticks (m - k) xs ≡ Some xs
unfolding after_ticks
all-ticks m k xs l = let e : m - k ≡ 0 = omega arith in rw e refl

pub next-word :
    (vs us cs ds : List (List ℕ)) (w : List ℕ) (r : Option (Bor (List ℕ))) (b : Bool) (Q : Bor (List ℕ) → Type 0) → vs ≡ w ∷ cs → Next us r ds → Passed r b Q → ((p : Bor (List ℕ)) → Q p → b ≡ word_meets w p.now) →
    words_meet vs us ≡ (b && words_meet cs ds)
unfolding words_meet
next-word vs us cs ds w None b Q v e t f = rw (v, e.0, t) refl
next-word vs us cs ds w (Some p) b Q v e t f = rw (v, e, f p t) refl

pub no_words_left : (vs us ds : List (List ℕ)) (r : Option (Bor (List ℕ))) → vs ≡ [] → Next us r ds → words_meet vs us ≡ not (is_some r)
unfolding words_meet
no_words_left vs us ds None v e = rw (v, e.0) refl
no_words_left vs us ds (Some p) v e = rw (v, e) refl

pub not-not : (b : Bool) → not (not b) ≡ b
not-not true = refl
not-not false = refl

pub following-ticks : (want : List ℕ) (n : ℕ) (ls : List (List ℕ)) → Some n ≡ ticks_of (cut 32 want) → following want ls ≡ after_ticks n ls
unfolding following
following-ticks want n ls e = rw (sym e) refl

pub found : (b : Bool) (o : Option (List (List ℕ))) (rest : List (List ℕ)) → o ≡ cond b (Some rest) None → Found b o rest
found true o rest e = e
found false o rest e = e

following-next :
    (want : List ℕ) (us ds : List (List ℕ)) (r : Option (Bor (List ℕ))) (b : Bool) (Q : Bor (List ℕ) → Type 0) → None ≡ ticks_of (cut 32 want) → Next us r ds → Passed r b Q →
    ((p : Bor (List ℕ)) → Q p → b ≡ words_meet (cut 32 want) (cut 32 p.now)) → following want us ≡ cond b (Some ds) None
unfolding following
following-next want us ds None b Q n e t f = rw (sym n, e.0, t) refl
following-next want us ds (Some p) b Q n e t f = rw (sym n, e, f p t) refl

pub next-line :
    (want : List ℕ) (us ds : List (List ℕ)) (r : Option (Bor (List ℕ))) (b : Bool) (Q : Bor (List ℕ) → Type 0) → None ≡ ticks_of (cut 32 want) → Next us r ds → Passed r b Q →
    ((p : Bor (List ℕ)) → Q p → b ≡ words_meet (cut 32 want) (cut 32 p.now)) → Found b (following want us) ds
next-line want us ds r b Q n e t f = found b (following want us) ds (following-next want us ds r b Q n e t f)

pub lines_more :
    (n m : ℕ) (vs us cs ds : List (List ℕ)) (w : List ℕ) → vs ≡ w ∷ cs → following w us ≡ Some ds → m ≡ more n → first_apart m cs ds ≡ first_apart n vs us
unfolding first_apart
lines_more n m vs us cs ds w e f g = rw (e, f, g) refl

pub lines-apart : (n : ℕ) (vs us cs : List (List ℕ)) (w : List ℕ) → vs ≡ w ∷ cs → following w us ≡ None → Some n ≡ first_apart n vs us
unfolding first_apart
lines-apart n vs us cs w e f = rw (e, f) refl

pub no_lines_left : (n : ℕ) (vs us : List (List ℕ)) (o : Option ℕ) → vs ≡ [] → o ≡ only_if_left n us → o ≡ first_apart n vs us
unfolding first_apart
no_lines_left n vs us o v e = rw v e
