-- Short scenes, each a list of calls with the answers that they must get from an empty house on.
use Rattle.std.specs.Prelude.{Bool, true, false, ◌&&◌, T, List, [], ◌∷◌, ◌==◌}
use Rattle.sched.specs.declared.Kind.TheVariants.{Reserved, Fixed, Fair}
use Rattle.sched.specs.declared.Call.{Call}
use Rattle.sched.specs.declared.Call.TheVariants.{Make, Wake, Lock}
use Rattle.sched.specs.declared.Answer.{Answer}
use Rattle.sched.specs.declared.Answer.TheVariants.{Done, Id, No}
use Rattle.sched.specs.House.{House, empty, calls}

unfoldable pub same_answer : Answer → Answer → Bool
same_answer Done Done = true
same_answer Done (Id j) = false
same_answer Done (No j) = false
same_answer (Id i) Done = false
same_answer (Id i) (Id j) = i == j
same_answer (Id i) (No j) = false
same_answer (No i) Done = false
same_answer (No i) (Id j) = false
same_answer (No i) (No j) = i == j

abbrev pub Scene : Type 0
Scene = List (Call × Answer)

-- each call is answered as it's written, from h on
unfoldable pub plays : House → Scene → Bool
plays h [] = true
plays h (x ∷ xs) = same_answer (calls x.0 h).answer x.1 && plays (calls x.0 h).house xs

unfoldable pub plays_all : List Scene → Bool
plays_all [] = true
plays_all (s ∷ ss) = plays empty s && plays_all ss

-- no such quota, period, rank or weight
abbrev pub bad_kinds : Scene
bad_kinds =
    (Make (Reserved 0 10), No 1) ∷ (Make (Reserved 3 3), No 1) ∷ (Make (Reserved 1 11), No 1) ∷ (Make (Fixed 16), No 1) ∷ (Make (Fair 0), No 1) ∷ []

-- three quarters are given away, and not one part of 10,080 more
abbrev pub full_house : Scene
full_house = (Make (Reserved 3 4), Id 0) ∷ (Make (Reserved 1 10080), No 3) ∷ []

-- who has a lock isn't given it again, and who waits can't lock
abbrev pub lock_twice : Scene
lock_twice =
    (Make (Fair 1), Id 0) ∷ (Make (Fair 1), Id 1) ∷ (Wake 0, Done) ∷ (Wake 1, Done) ∷ (Lock 0 5, Done) ∷ (Lock 1 5, Done) ∷ (Lock 0 5, No 5) ∷ (Lock 1 5, No 9) ∷ []

-- the call that would close a ring is refused
abbrev pub ring_of_two : Scene
ring_of_two =
    (Make (Fair 1), Id 0) ∷ (Make (Fair 1), Id 1) ∷ (Wake 0, Done) ∷ (Wake 1, Done) ∷ (Lock 0 5, Done) ∷ (Lock 1 6, Done) ∷ (Lock 0 6, Done) ∷ (Lock 1 5, No 5) ∷ []

abbrev pub ScenesPlay : Type 0
ScenesPlay = T (plays_all (bad_kinds ∷ full_house ∷ lock_twice ∷ ring_of_two ∷ []))
