-- Each command in the language's own words, and that it is read so; and that answers can be told apart. Assumes nothing.
use Rattle.std.specs.Prelude.{◌≡◌, ℕ, ◌^◌, ◌<◌, true, List, ◌++◌, is_some, Some, None, codes, decimal, Option}
use Rattle.sched.specs.declared.Answer.{Answer}
use Rattle.sched.specs.declared.Answer.TheVariants.{Done, Id, No}
use Rattle.sched.specs.declared.Kind.{Kind}
use Rattle.sched.specs.declared.Kind.TheVariants.{Reserved, Fixed, Fair}
use Rattle.sched.specs.declared.Call.{Call}
use Rattle.sched.specs.declared.Call.TheVariants.{Make, End, Wake, Sleep, Lock, Unlock}
use Rattle.script.specs.declared.command.Command.{Command}
use Rattle.script.specs.declared.command.Command.TheVariants.{Call as Calls, Tick, Had, Any}
use Rattle.script.specs.Grammar.{command_of}
use Rattle.script.specs.Text.{answer_text, tick_text}

-- two numbers with a space between them
abbrev pub two_numbers : ℕ → ℕ → List ℕ
two_numbers m n = decimal m ++ (codes " " ++ decimal n)

unfoldable pub kind_text : Kind → List ℕ
kind_text (Reserved q p) = codes "reserved " ++ two_numbers q p
kind_text (Fixed r) = codes "fixed " ++ decimal r
kind_text (Fair w) = codes "fair " ++ decimal w

unfoldable pub call_text : Call → List ℕ
call_text (Make k) = codes "make " ++ kind_text k
call_text (End i) = codes "end " ++ decimal i
call_text (Wake i) = codes "wake " ++ decimal i
call_text (Sleep i) = codes "sleep " ++ decimal i
call_text (Lock i m) = codes "lock " ++ two_numbers i m
call_text (Unlock i m) = codes "unlock " ++ two_numbers i m

unfoldable pub command_text : Command → List ℕ
command_text (Calls c) = call_text c
command_text (Tick n) = codes "tick " ++ decimal n
command_text Had = codes "had"
command_text (Any s n) = codes "any " ++ two_numbers s n

-- each number is below 2^32
abbrev pub KindFits : Kind → Type 0
KindFits (Reserved q p) = (q < 2 ^ 32) × (p < 2 ^ 32)
KindFits (Fixed r) = r < 2 ^ 32
KindFits (Fair w) = w < 2 ^ 32

abbrev pub CallFits : Call → Type 0
CallFits (Make k) = KindFits k
CallFits (End i) = i < 2 ^ 32
CallFits (Wake i) = i < 2 ^ 32
CallFits (Sleep i) = i < 2 ^ 32
CallFits (Lock i m) = (i < 2 ^ 32) × (m < 2 ^ 32)
CallFits (Unlock i m) = (i < 2 ^ 32) × (m < 2 ^ 32)

abbrev pub CommandFits : Command → Type 0
CommandFits (Calls c) = CallFits c
CommandFits (Tick n) = n < 2 ^ 32
CommandFits Had = Unit {0}
CommandFits (Any s n) = (s < 2 ^ 32) × (n < 2 ^ 32)

-- what is written of a command is read as that command
abbrev pub PrintedCommandsParse : Type 0
PrintedCommandsParse = (c : Command) → CommandFits c → command_of (command_text c) ≡ Some c

abbrev pub AnswerFits : Answer → Type 0
AnswerFits Done = Unit {0}
AnswerFits (Id i) = i < 2 ^ 32
AnswerFits (No n) = n < 2 ^ 32

-- two answers to a call with one text are one answer
abbrev pub AnswersApart : Type 0
AnswersApart = (a b : Answer) → AnswerFits a → AnswerFits b → answer_text a ≡ answer_text b → a ≡ b

abbrev pub TickFits : Option ℕ → ℕ → Type 0
TickFits None runs = Unit {0}
TickFits (Some i) runs = (i < 2 ^ 32) × (runs < 2 ^ 32)

-- two ticks with one text are of one task, and the same runs in them
abbrev pub TicksApart : Type 0
TicksApart = (v w : Option ℕ) (r s : ℕ) → TickFits v r → TickFits w s → tick_text v r ≡ tick_text w s → (v ≡ w) × (is_some v ≡ true → r ≡ s)
