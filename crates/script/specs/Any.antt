-- How `any` chooses: numbers drawn one after the other, and a step made of them. Assumes nothing.
use Rattle.std.specs.Prelude.{ℕ, ◌+◌, ◌*◌, ◌/◌, ◌%◌, ◌^◌, cond, List, [], ◌∷◌, ◌==◌, nat_lt, slice_index}
use Rattle.sched.specs.declared.Kind.{Kind}
use Rattle.sched.specs.declared.Kind.TheVariants.{Reserved, Fixed, Fair}
use Rattle.sched.specs.declared.Call.{Call}
use Rattle.sched.specs.declared.Call.TheVariants.{Make, End, Wake, Sleep, Lock, Unlock}
use Rattle.sched.specs.declared.Next.{Next}
use Rattle.sched.specs.declared.Next.TheVariants.{Calls, Tick}

-- what was drawn, and the generator's number after it
pub data Drawn (X : Type 0) : Type 0 where
  drawn : X → ℕ → Drawn X

abbrev pub and_then : {X Y : Type 0} → Drawn X → (X → ℕ → Drawn Y) → Drawn Y
and_then (drawn d x) f = f d x

abbrev pub made : {X Y : Type 0} → (X → Y) → Drawn X → Drawn Y
made f d = and_then d (λ a x. drawn (f a) x)

abbrev pub moved : ℕ → ℕ
moved x = (x * 6364136223846793005 + 1442695040888963407) % 2 ^ 64

-- a number below k
unfoldable pub below : ℕ → ℕ → Drawn ℕ
below k x = drawn (moved x / 2 ^ 33 % k) (moved x)

-- mostly below often, one time in eight below seldom
unfoldable pub pick : (often seldom : ℕ) → ℕ → Drawn ℕ
pick often seldom x = and_then (below 8 x) (λ d y. cond (d == 0) (below seldom y) (below often y))

abbrev pub periods : List ℕ
periods = 4 ∷ 5 ∷ 6 ∷ 7 ∷ 8 ∷ 9 ∷ 10 ∷ 12 ∷ 20 ∷ 60 ∷ 3 ∷ 11 ∷ []

unfoldable pub period : ℕ → Drawn ℕ
period x = made (λ d. slice_index periods d) (below 12 x)

unfoldable pub kind : ℕ → Drawn Kind
kind x =
    and_then (below 4 x)
    (λ d y.
    cond (nat_lt d 2) (and_then (period y) (λ p z. made (λ q. Reserved q p) (below (p / 2 + 1) z)))
    (cond (d == 2) (made Fixed (pick 3 20 y)) (made Fair (pick 4 1100 y))))

-- one of four locks, or 64, which is none
unfoldable pub lock : ℕ → Drawn ℕ
lock x = made (λ d. cond (d == 4) 64 d) (below 5 x)

-- a call on a task and a lock
abbrev pub on_lock : (ℕ → ℕ → Call) → ℕ → Drawn Call
on_lock f x = and_then (below 8 x) (λ i y. made (f i) (lock y))

-- the call that goes with a number from 32 to 63
unfoldable pub call : ℕ → ℕ → Drawn Call
call d x =
    cond (nat_lt d 34) (made Make (kind x))
    (cond (nat_lt d 40) (made End (below 72 x))
    (cond (nat_lt d 47) (made Wake (pick 16 80 x))
    (cond (nat_lt d 49) (made Sleep (pick 16 80 x))
    (cond (nat_lt d 52) (on_lock Lock x) (on_lock Unlock x)))))

unfoldable pub step : ℕ → Drawn Next
step x = and_then (below 64 x) (λ d y. cond (nat_lt d 32) (drawn Tick y) (made Calls (call d y)))
