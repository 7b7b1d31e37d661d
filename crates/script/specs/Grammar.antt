-- The script language: which lines are which commands. A line is the bytes before its newline.
-- Assumes nothing.
use Rattle.std.specs.Prelude.{ℕ, ◌+◌, ◌-◌, ◌*◌, ◌^◌, Bool, true, cond, ◌&&◌, List, [], ◌∷◌, Some, None, codes, Option, ◌==◌, nat_le, nat_lt}
use Prim.Native.String.{String}
use Rattle.std.specs.Str.{bytes_eq}
use Rattle.sched.specs.declared.Kind.TheVariants.{Reserved, Fixed, Fair}
use Rattle.sched.specs.declared.Call.TheVariants.{Make, End, Wake, Sleep, Lock, Unlock}
use Rattle.script.specs.declared.command.Command.{Command}
use Rattle.script.specs.declared.command.Command.TheVariants.{Call, Tick, Had, Any}

-- a byte before the first of some words
abbrev pub on_first : ℕ → List (List ℕ) → List (List ℕ)
on_first b [] = (b ∷ []) ∷ []
on_first b (w ∷ ws) = (b ∷ w) ∷ ws

-- the words of a line, which is cut at each space: an empty word stands between two spaces in a row, before a first one and after a last one
unfoldable pub words : List ℕ → List (List ℕ)
words [] = [] ∷ []
words (b ∷ bs) = cond (b == 32) ([] ∷ words bs) (on_first b (words bs))

abbrev pub is_digit : ℕ → Bool
is_digit b = nat_le 48 b && nat_le b 57

unfoldable pub all_digits : List ℕ → Bool
all_digits [] = true
all_digits (b ∷ bs) = is_digit b && all_digits bs

-- what digits come to, after such that come to n
unfoldable pub value_after : ℕ → List ℕ → ℕ
value_after n [] = n
value_after n (b ∷ bs) = value_after (n * 10 + (b - 48)) bs

-- what digits come to, if that is below 2^32
unfoldable pub value_of : List ℕ → Option ℕ
value_of bs = cond (all_digits bs && nat_lt (value_after 0 bs) (2 ^ 32)) (Some (value_after 0 bs)) None

-- a number is one digit or more
unfoldable pub number_of : List ℕ → Option ℕ
number_of [] = None
number_of (b ∷ bs) = value_of (b ∷ bs)

abbrev pub is : List ℕ → String → Bool
is word name = bytes_eq word (codes name)

-- a command that needs a number
abbrev pub with : Option ℕ → (ℕ → Option Command) → Option Command
with None f = None
with (Some n) f = f n

-- a verb alone
abbrev pub one_word : List ℕ → Option Command
one_word v = cond (is v "had") (Some Had) None

-- a verb and a number
abbrev pub two_words : List ℕ → List ℕ → Option Command
two_words v a =
    with (number_of a)
    (λ n.
    cond (is v "tick") (Some (Tick n))
    (cond (is v "wake") (Some (Call (Wake n)))
    (cond (is v "sleep") (Some (Call (Sleep n)))
    (cond (is v "end") (Some (Call (End n))) None))))

-- a kind of task with one number
abbrev pub kind_of_one : List ℕ → ℕ → Option Command
kind_of_one kind n =
    cond (is kind "fixed") (Some (Call (Make (Fixed n))))
    (cond (is kind "fair") (Some (Call (Make (Fair n)))) None)

-- a verb and two numbers, or `make`, a kind and a number
abbrev pub three_words : List ℕ → List ℕ → List ℕ → Option Command
three_words v a b =
    cond (is v "make") (with (number_of b) (λ n. kind_of_one a n))
    (with (number_of a) (λ m. with (number_of b)
    (λ n.
    cond (is v "lock") (Some (Call (Lock m n)))
    (cond (is v "unlock") (Some (Call (Unlock m n)))
    (cond (is v "any") (Some (Any m n)) None)))))

-- `make`, a kind and two numbers
abbrev pub four_words : List ℕ → List ℕ → List ℕ → List ℕ → Option Command
four_words v a b c =
    cond (is v "make") (cond (is a "reserved") (with (number_of b) (λ m. with (number_of c) (λ n. Some (Call (Make (Reserved m n)))))) None) None

unfoldable pub of_words : List (List ℕ) → Option Command
of_words [] = None
of_words (v ∷ []) = one_word v
of_words (v ∷ a ∷ []) = two_words v a
of_words (v ∷ a ∷ b ∷ []) = three_words v a b
of_words (v ∷ a ∷ b ∷ c ∷ []) = four_words v a b c
of_words (v ∷ a ∷ b ∷ c ∷ d ∷ ws) = None

-- the command that a line is, or none
unfoldable pub command_of : List ℕ → Option Command
command_of line = of_words (words line)
