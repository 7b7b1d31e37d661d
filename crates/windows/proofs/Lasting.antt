-- How long a window lasts: by induction on its ticks, of which each takes one from what it has to go.
use Rattle.std.proofs.Common.{zero, suc, ◌+◌, cond, ◌&&◌, [], ◌∷◌, refl, arith}
use Rattle.windows.specs.Laws.{OpenUntilTheEnd, ShutAtTheEnd, NeverWholeAgain}

pub open-until-the-end : OpenUntilTheEnd
open-until-the-end p zero g b ts h = grind arith
open-until-the-end p (suc e) g b [] h = refl
open-until-the-end p (suc zero) g b (t ∷ ts) h = grind arith
open-until-the-end p (suc (suc e)) g b (t ∷ ts) h = open-until-the-end p (suc e) (cond t.mine (g + 1) g) (b && t.wants) ts (omega arith)

pub shut-at-the-end : ShutAtTheEnd
shut-at-the-end p zero g b ts positive h = grind arith
shut-at-the-end p (suc e) g b [] positive h = grind arith
shut-at-the-end p (suc zero) g b (t ∷ []) positive h = refl
shut-at-the-end p (suc zero) g b (t ∷ (u ∷ ts)) positive h = grind arith
shut-at-the-end p (suc (suc e)) g b (t ∷ ts) positive h = shut-at-the-end p (suc e) (cond t.mine (g + 1) g) (b && t.wants) ts (omega arith) (omega arith)

pub never-whole-again : NeverWholeAgain
never-whole-again p zero g ts h = grind arith
never-whole-again p (suc e) g [] h = refl
never-whole-again p (suc zero) g (t ∷ ts) h = grind arith
never-whole-again p (suc (suc e)) g (t ∷ ts) h = never-whole-again p (suc e) (cond t.mine (g + 1) g) ts (omega arith)
