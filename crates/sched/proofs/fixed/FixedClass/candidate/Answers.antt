use Rattle.std.proofs.Common.{sym, ap, ◌∙◌, ⊎_elim, arith}
use Rattle.std.proofs.lemmas.Bool.{cases_eq}
use Rattle.sched.specs.House.{in_turn, rank_wants}
use Rattle.sched.specs.Stores.{of_rank}
use Rattle.sched.specs.Midtick.{asking}
use Rattle.sched.proofs.TurnKept.{ranks}
use Rattle.sched.proofs.Walks.{turn-kept}
use Rattle.sched.proofs.RankTurns.{first-in-rank, no-rank, owner-none}
use Rattle.sched.proofs.fixed.FixedClass.candidate.Goals as goal

pub returns-then-is_some : goal.returns-then-is_some
returns-then-is_some c h slots asks (turn, once) =
    first-in-rank h once c.in-Some.rank.index c.first_wanting-first.result c.in-Some.rank.within (sym c.is_some.ensures ∙ c.if-is_some.true)
    (c.first_wanting-first.ensures (ranks h.place h.turn) h turn asks ∙ turn-kept (of_rank h.place c.in-Some.rank.index) (asking h) h.turn)
    (λ r l. c.loop-rank.invariant h asks turn r (omega (arith, c.in-Some.ensures.steps.0)))

pub loop-rank-preserved : goal.loop-rank-preserved
loop-rank-preserved c h asks turn r l =
    ⊎_elim (λ e. ap (λ k. in_turn (rank_wants h k) h.turn) e ∙ sym (c.first_wanting-first.ensures (ranks h.place h.turn) h turn asks ∙ turn-kept (of_rank h.place c.in-Some.rank.index) (asking h) h.turn) ∙ owner-none c.first_wanting-first.result (sym c.is_some.ensures ∙ c.if-is_some.false))
    (λ ne. c.loop-rank.invariant h asks turn r (omega (arith, c.in-Some.ensures.steps))) (cases_eq r c.in-Some.rank.index)

pub returns : goal.returns
returns c h slots asks (turn, once) = no-rank h once c.args._tasks.now slots (λ r l. c.loop-rank.invariant h asks turn r (omega (arith, c.in-None.ensures.steps.0)))
