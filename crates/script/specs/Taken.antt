-- What has been taken in so far, byte by byte. Assumes nothing.
use Rattle.std.specs.Prelude.{◌≡◌, ℕ, ◌-◌, cond, List, [], ◌∷◌, ◌++◌, map, length, replicate, Some, None, Option, nat_le}
use Rattle.arrayvec.specs.ArrayVec.{ArrayVec}
use Rattle.script.specs.Grammar.{words, value_of}
use Rattle.script.specs.declared.line.Line.{Line}
use Rattle.script.specs.declared.word.Name.{Name}
use Rattle.script.specs.declared.word.Word.{Word}

-- what holds these, if there are at most so many
unfoldable pub at_most : {T H : Type 0} → ℕ → (List T → H) → List T → Option H
at_most n holding xs = cond (nat_le (length xs) n) (Some (holding xs)) None

-- a name: its bytes with zeros up to eight, and how many they are
abbrev pub name_of : List ℕ → Name
name_of xs = record { bytes = xs ++ replicate (8 - length xs) 0; len = length xs }

-- a word: its bytes, if a name may have so many, and what they come to
abbrev pub word_of : List ℕ → Word
word_of xs = record { name = at_most 8 name_of xs; value = value_of xs }

abbrev pub WordTaken : Word → List ℕ → Type 0
WordTaken w xs = w ≡ word_of xs

abbrev pub vec_of : {T : Type 0} → List T → ArrayVec T
vec_of xs = record { items = xs }

-- a line: the words that a space has ended, if a command may have so many before its last, and the last
pub record LineTaken (l : Line) (xs : List ℕ) : Type 0 where
  pub ended_words : List (List ℕ)
  pub last_word : List ℕ
  pub cut : words xs ≡ ended_words ++ (last_word ∷ [])
  pub ended : l.ended ≡ at_most 3 vec_of (map word_of ended_words)
  pub last : WordTaken l.last last_word
