-- What has been drawn: handed on to a sink, or still to be. Assumes nothing.
use Rattle.std.specs.Prelude.{◌≡◌, ℕ, List, ◌++◌}

-- xs is what the sink took, and then what is still here. `took s` is what is known of the bytes that s took.
abbrev pub Drawn : {S : Type 0} → (S → List ℕ → Type 0) → S → List ℕ → List ℕ → Type 0
Drawn took s here xs = (before : List ℕ) × took s before × (before ++ here ≡ xs)
