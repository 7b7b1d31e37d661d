-- What has been printed: handed on to a sink, or still on the page. Assumes nothing.
use Rattle.std.specs.Prelude.{◌≡◌, ℕ, ◌≤◌, List, ◌++◌, length}
use Rattle.script.specs.declared.page.Page.{Page}

-- what stands on the page
abbrev pub pending : Page → List ℕ
pending p = p.bytes.items

-- q is p with xs after what stands on it
abbrev pub Wrote : Page → Page → List ℕ → Type 0
Wrote p q xs = pending q ≡ pending p ++ xs

-- the next line finds room
abbrev pub Roomy : Page → Type 0
Roomy p = length (pending p) ≤ 63488

-- xs is all that was printed: what the sink took, and then what stands on the page. `took s` is what is known of the bytes that s took.
pub record Printed {S : Type 0} (took : S → List ℕ → Type 0) (s : S) (p : Page) (xs : List ℕ) : Type 0 where
  pub before : List ℕ
  pub taken : took s before
  pub all : before ++ pending p ≡ xs

-- from this sink and page to those, the text was printed after whatever had been
abbrev pub Prints : {S : Type 0} (took : S → List ℕ → Type 0) (s : S) (p : Page) (t : S) (q : Page) (text : List ℕ) → Type 0
Prints took s p t q text = (xs : List ℕ) → Printed took s p xs → Printed took t q (xs ++ text)
