-- A line that is taken in, and what it asks for by the number of its words.
use Rattle.std.proofs.Common.{◌≡◌, ℕ, ◌<◌, eqb, false, List, [], ◌∷◌, ◌++◌, map, length, get_or, Some, None, Option, sym, refl, ap, ◌∙◌, arith}
use Rattle.std.proofs.lemmas.List.{length-append, length-map, map_push}
use Rattle.arrayvec.specs.ArrayVec.{ArrayVec}
use Rattle.script.specs.declared.command.Command.{Command}
use Rattle.script.specs.declared.line.Line.{Line}
use Rattle.script.specs.declared.word.Word.{Word}
use Rattle.script.specs.Grammar.{words, of_words, one_word, two_words, three_words, four_words, command_of}
use Rattle.script.specs.Taken.{at_most, vec_of, WordTaken, LineTaken, word_of}
use Rattle.script.proofs.Keeping.{fits, kept, let_go}
use Rattle.script.proofs.Splitting.{words-space, words_more}
use Rattle.script.proofs.Commands.{too_many}

-- no byte yet
pub fresh : (v : ArrayVec Word) (w : Word) → v.items ≡ [] → WordTaken w [] → LineTaken (record { ended = Some v; last = w }) []
unfolding words
fresh v w e t =
    record { ended_words = []; last_word = []; cut = refl; ended = ap (λ (s : List Word). Some (vec_of s)) e ∙ sym (fits vec_of 3 [] (omega arith)); last = t }

-- a byte of a word
pub lettered : (l : Line) (xs : List ℕ) (b : ℕ) (new : Word) → eqb b 32 ≡ false → ((ys : List ℕ) → WordTaken l.last ys → WordTaken new (ys ++ (b ∷ []))) → LineTaken l xs → LineTaken (record { ended = l.ended; last = new }) (xs ++ (b ∷ []))
lettered l xs b new ne grows t =
    record {
      ended_words = t.ended_words;
      last_word = t.last_word ++ (b ∷ []);
      cut = words_more xs t.ended_words t.last_word b ne t.cut;
      ended = t.ended;
      last = grows t.last_word t.last;
    }

-- a space
pub spaced : (l : Line) (xs : List ℕ) (o : Option (ArrayVec Word)) (new : Word) → WordTaken new []
    → ((ws : List Word) → l.ended ≡ at_most 3 vec_of ws → o ≡ at_most 3 vec_of (ws ++ (l.last ∷ []))) → LineTaken l xs → LineTaken (record { ended = o; last = new }) (xs ++ (32 ∷ []))
unfolding words
spaced l xs o new e grows t =
    let vs = t.ended_words in
    record {
      ended_words = vs ++ (t.last_word ∷ []);
      last_word = [];
      cut = words-space xs [] ∙ ap (λ ws. ws ++ ([] ∷ [])) t.cut;
      ended = grows (map word_of vs) t.ended ∙ ap (λ w. at_most 3 vec_of (map word_of vs ++ (w ∷ []))) t.last ∙ ap (at_most 3 vec_of) (sym (map_push word_of vs t.last_word));
      last = e;
    }

pub as_none : (l : Line) (xs : List ℕ) → LineTaken l xs → None ≡ l.ended → None ≡ command_of xs
unfolding command_of
as_none l xs t e =
    let n = let_go vec_of 3 (map word_of t.ended_words) (sym (e ∙ t.ended)) in
    sym (too_many (words xs) (omega (arith, n, length-map t.ended_words word_of, length-append t.ended_words (t.last_word ∷ []), ap length t.cut)))

pub kept_words : (ws : List Word) (v : ArrayVec Word) → at_most 3 vec_of ws ≡ Some v → v.items ≡ ws
kept_words ws v e = ap (λ (u : ArrayVec Word). u.items) (kept vec_of 3 ws v e).1

-- the words that are kept are those of the line
pub their_words : (l : Line) (xs : List ℕ) (t : LineTaken l xs) (v : ArrayVec Word) → Some v ≡ l.ended → v.items ≡ map word_of t.ended_words
their_words l xs t v e = kept_words (map word_of t.ended_words) v (sym (e ∙ t.ended))

-- the words that are kept, and the words that they are
module _ (xs : List ℕ) (v : List ℕ) (last : Word) (is : WordTaken last v) (r : Option Command) (ws : List Word) where
  pub as-one : (vs : List (List ℕ)) → words xs ≡ vs ++ (v ∷ []) → ws ≡ map word_of vs → length ws < 1 → ((a : List ℕ) → WordTaken last a → r ≡ one_word a) → r ≡ command_of xs
  unfolding command_of of_words
  as-one [] e k l h = h v is ∙ sym (ap of_words e)
  as-one (a ∷ vs) e k l h = absurd (omega (arith, l, ap length k))

  pub as-two : (vs : List (List ℕ)) → words xs ≡ vs ++ (v ∷ []) → ws ≡ map word_of vs → length ws ≡ 1 → (w : Word) → ((a b : List ℕ) → WordTaken (get_or ws 0 w) a → WordTaken last b → r ≡ two_words a b) → r ≡ command_of xs
  unfolding command_of of_words
  as-two [] e k l w h = absurd (omega (arith, l, ap length k))
  as-two (a ∷ []) e k l w h = h a v (ap (λ us. get_or us 0 w) k) is ∙ sym (ap of_words e)
  as-two (a ∷ b ∷ vs) e k l w h = absurd (omega (arith, l, ap length k))

  pub as-three : (vs : List (List ℕ)) → words xs ≡ vs ++ (v ∷ []) → ws ≡ map word_of vs → length ws ≡ 2 → (w u : Word)
      → ((a b c : List ℕ) → WordTaken (get_or ws 0 w) a → WordTaken (get_or ws 1 u) b → WordTaken last c → r ≡ three_words a b c) → r ≡ command_of xs
  unfolding command_of of_words
  as-three [] e k l w u h = absurd (omega (arith, l, ap length k))
  as-three (a ∷ []) e k l w u h = absurd (omega (arith, l, ap length k))
  as-three (a ∷ b ∷ []) e k l w u h = h a b v (ap (λ us. get_or us 0 w) k) (ap (λ us. get_or us 1 u) k) is ∙ sym (ap of_words e)
  as-three (a ∷ b ∷ c ∷ vs) e k l w u h = absurd (omega (arith, l, ap length k))

  pub as-four : (vs : List (List ℕ)) → words xs ≡ vs ++ (v ∷ []) → ws ≡ map word_of vs → length ws ≡ 3 → (w u t : Word)
      → ((a b c d : List ℕ) → WordTaken (get_or ws 0 w) a → WordTaken (get_or ws 1 u) b → WordTaken (get_or ws 2 t) c → WordTaken last d → r ≡ four_words a b c d) → r ≡ command_of xs
  unfolding command_of of_words
  as-four [] e k l w u t h = absurd (omega (arith, l, ap length k))
  as-four (a ∷ []) e k l w u t h = absurd (omega (arith, l, ap length k))
  as-four (a ∷ b ∷ []) e k l w u t h = absurd (omega (arith, l, ap length k))
  as-four (a ∷ b ∷ c ∷ []) e k l w u t h = h a b c v (ap (λ us. get_or us 0 w) k) (ap (λ us. get_or us 1 u) k) (ap (λ us. get_or us 2 t) k) is ∙ sym (ap of_words e)
  as-four (a ∷ b ∷ c ∷ d ∷ vs) e k l w u t h = absurd (omega (arith, l, ap length k))
