-- What is expected of a text, line by line.
-- Assumes nothing.
use Rattle.std.specs.Prelude.{◌≡◌, ℕ, zero, suc, ◌+◌, ◌-◌, min, Bool, true, false, cond, ◌&&◌, ◌||◌, List, [], ◌∷◌, is_some, Some, None, codes, Option, nat_le}
use Rattle.std.specs.Str.{bytes_eq}
use Rattle.script.specs.Grammar.{number_of}
use Rattle.rehearsal.specs.Cuts.{cut}

-- n is at most d off m
abbrev pub is_near : Option ℕ → Option ℕ → Option ℕ → Bool
is_near None m d = false
is_near (Some n) None d = false
is_near (Some n) (Some m) None = false
is_near (Some n) (Some m) (Some d) = nat_le (n - m + (m - n)) d

-- what was got, against the parts of a word at `~`: a number and how far off it one may be, or the word itself
abbrev pub near_to : List (List ℕ) → List ℕ → List ℕ → Bool
near_to [] want got = bytes_eq want got
near_to (m ∷ []) want got = bytes_eq want got
near_to (m ∷ d ∷ xs) want got = is_near (number_of got) (number_of m) (number_of d)

abbrev pub word_meets : List ℕ → List ℕ → Bool
word_meets want got = near_to (cut 126 want) want got

unfoldable pub words_meet : List (List ℕ) → List (List ℕ) → Bool
words_meet [] [] = true
words_meet [] (g ∷ gs) = false
words_meet (w ∷ ws) [] = false
words_meet (w ∷ ws) (g ∷ gs) = word_meets w g && words_meet ws gs

-- `ticks` and a number
abbrev pub ticks_of : List (List ℕ) → Option ℕ
ticks_of [] = None
ticks_of (w ∷ []) = None
ticks_of (w ∷ n ∷ xs) = cond (bytes_eq w (codes "ticks")) (number_of n) None

-- `-`, or a line that begins with a number
abbrev pub tick_word : List (List ℕ) → Bool
tick_word [] = false
tick_word (w ∷ ws) = bytes_eq w (codes "-") || is_some (number_of w)

abbrev pub is_tick : List ℕ → Bool
is_tick line = tick_word (cut 32 line)

-- what follows so many lines of ticks
unfoldable pub after_ticks : ℕ → List (List ℕ) → Option (List (List ℕ))
after_ticks zero ls = Some ls
after_ticks (suc n) [] = None
after_ticks (suc n) (l ∷ ls) = cond (is_tick l) (after_ticks n ls) None

-- what follows one line that meets it, word by word
abbrev pub after_line : List ℕ → List (List ℕ) → Option (List (List ℕ))
after_line want [] = None
after_line want (l ∷ ls) = cond (words_meet (cut 32 want) (cut 32 l)) (Some ls) None

abbrev pub after_either : Option ℕ → List ℕ → List (List ℕ) → Option (List (List ℕ))
after_either None want ls = after_line want ls
after_either (Some n) want ls = after_ticks n ls

-- what follows the lines that this one stands for, if they are the first of these
unfoldable pub following : List ℕ → List (List ℕ) → Option (List (List ℕ))
following want ls = after_either (ticks_of (cut 32 want)) want ls

-- the number of the next line, which stops at the most that 64 bits hold
abbrev pub more : ℕ → ℕ
more n = min (n + 1) 18446744073709551615

-- this number where lines are left
abbrev pub only_if_left : ℕ → List (List ℕ) → Option ℕ
only_if_left n [] = None
only_if_left n (l ∷ ls) = Some n

abbrev pub or_further : ℕ → (List (List ℕ) → Option ℕ) → Option (List (List ℕ)) → Option ℕ
or_further n further None = Some n
or_further n further (Some ls) = further ls

-- The number of the first of these lines, counted from n on, that doesn't stand for the lines that come next; one past the last where lines are left; none if those are what these stand for.
unfoldable pub first_apart : ℕ → List (List ℕ) → List (List ℕ) → Option ℕ
first_apart n [] ls = only_if_left n ls
first_apart n (w ∷ ws) ls = or_further n (first_apart (more n) ws) (following w ls)

-- what was found of the lines that one stands for, and what is left
abbrev pub Found : Bool → Option (List (List ℕ)) → List (List ℕ) → Type 0
Found true o left = o ≡ Some left
Found false o left = o ≡ None
