-- The position is exact, and the least far so far is still known.
use Rattle.std.proofs.Common.{◌+◌, true, set, Some, sym, subst}
use Rattle.sched.specs.declared.fair.Fair.{Fair}
use Rattle.sched.specs.House.{opened}
use Rattle.sched.specs.Begun.{Begins}
use Rattle.sched.proofs.positions.Beginning.{begins-joined, candidate-nearer, candidate-stays}
use Rattle.sched.proofs.fair.Fair.join.Goals as goal
use Rattle.sched.proofs.fair.Fair.join.Goals.{then-is_nearer, else-is_nearer}

pub returns : goal.returns
returns c base h comes wants begins =
    let there = c.joined-position.ensures base h comes wants begins in
    let told = c.is_nearer.ensures base c.args.i.index h there begins in
    let P : Fair → Type 0 = λ s. Begins base (c.args.i.index + 1) (record { positions = set s.positions c.index.result c.joined-position.result; wanted = set s.wanted c.index-2.result true; mark = s.mark; least = s.least }) h in
    elim c.if-is_nearer.branch [
      | then-is_nearer w ↦ subst P (sym w.self-is) (simp (c.index.ensures.value, c.index-2.ensures.value)
          (begins-joined base h c.args.self.now c.args.i.index c.args.i.within begins c.joined-position.result (Some c.args.i) wants there
          (candidate-nearer (opened h) c.args.i c.args.self.now.least c.is_nearer.result wants told w.if-is_nearer.true begins.least)))
      | else-is_nearer w ↦ subst P (sym w.self-is) (simp (c.index.ensures.value, c.index-2.ensures.value)
          (begins-joined base h c.args.self.now c.args.i.index c.args.i.within begins c.joined-position.result c.args.self.now.least wants there
          (candidate-stays (opened h) c.args.i.index c.args.self.now.least c.is_nearer.result told w.if-is_nearer.false begins.least)))
    ]
