-- The text of what is answered, each a line without its newline. Assumes nothing.
use Rattle.std.specs.Prelude.{ℕ, cond, List, [], ◌∷◌, ◌++◌, Some, None, codes, decimal, Option, ◌==◌}
use Rattle.sched.specs.declared.Answer.{Answer}
use Rattle.sched.specs.declared.Answer.TheVariants.{Done, Id, No}

-- what a call is answered
abbrev pub answer_text : Answer → List ℕ
answer_text Done = codes "done"
answer_text (Id i) = codes "id " ++ decimal i
answer_text (No n) = codes "no " ++ decimal n

-- whose a tick is, and who runs in it
abbrev pub tick_text : Option ℕ → ℕ → List ℕ
tick_text None runs = codes "-"
tick_text (Some i) runs = cond (runs == i) (decimal i) (decimal i ++ (codes " runs " ++ decimal runs))

-- a count after a space, if there is one
abbrev pub count_text : Option ℕ → List ℕ
count_text None = []
count_text (Some n) = codes " " ++ decimal n

abbrev pub counts_text : List (Option ℕ) → List ℕ
counts_text [] = []
counts_text (c ∷ cs) = count_text c ++ counts_text cs

-- how many ticks each task has had, by place
abbrev pub had_text : List (Option ℕ) → List ℕ
had_text cs = codes "had" ++ counts_text cs

-- a line that is no command, by its number
abbrev pub bad_line_text : ℕ → List ℕ
bad_line_text n = codes "line " ++ (decimal n ++ codes "?")

abbrev pub as_line : List ℕ → List ℕ
as_line text = text ++ (10 ∷ [])
