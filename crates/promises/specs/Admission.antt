-- Whom `make` admits: anybody of a good kind, as long as there is a place and the shares stay within three quarters.
use Rattle.std.specs.Prelude.{◌≡◌, ℕ, ◌+◌, ◌<◌, ◌≤◌, T}
use Rattle.sched.specs.declared.Kind.{Kind}
use Rattle.sched.specs.declared.Call.TheVariants.{Make}
use Rattle.sched.specs.declared.Answer.TheVariants.{Id}
use Rattle.sched.specs.House.{House, Nobody, calls, good, sum, share_of, share_of_kind}

abbrev pub FreePlace : House → ℕ → Type 0
FreePlace h n = (n < 64) × (h.place n ≡ Nobody)

-- shares, those kept for who has ended among them, and the new one
abbrev pub FitsWith : House → Kind → Type 0
FitsWith h k = sum 64 (λ i. share_of (h.place i)) + share_of_kind k ≤ 7560

-- it's told a place just if there is a free one and its share fits, and then the lowest
pub record Admitted (h : House) (k : Kind) : Type 0 where
  pub if-room : (n : ℕ) → FreePlace h n → FitsWith h k → (m : ℕ) × ((calls (Make k) h).answer ≡ Id m)
  pub only_if : (m : ℕ) → (calls (Make k) h).answer ≡ Id m → FreePlace h m × FitsWith h k
  pub lowest : (m n : ℕ) → (calls (Make k) h).answer ≡ Id m → FreePlace h n → m ≤ n

abbrev pub Admits : Type 0
Admits = (h : House) (k : Kind) → T (good k) → Admitted h k
