-- There is a promise exactly where the numbers are good.
use Rattle.std.proofs.Common.{sym, ap, ◌∙◌}
use Rattle.std.proofs.lemmas.Result.{err_from_is_err_and}
use Rattle.sched.specs.House.{good}
use Rattle.sched.proofs.Promises.{reservation-good, reservation-bad, reservation-kind, rank-good, rank-bad, rank-kind, weight-good, weight-bad, weight-kind}
use Rattle.sched.proofs.promise.PromiseTryFromKind.try_from.Goals as goal

pub returns-in_err-new-in-Reserved : goal.returns-in_err-new-in-Reserved
returns-in_err-new-in-Reserved c =
    let p = err_from_is_err_and c.from_residual.result c.from_residual.ensures.1 in
    rw p.1 (ap good c.in-Reserved.is ∙ reservation-bad _ _ c.in_err-new-in-Reserved.ensures)

pub returns-in_err-try_from-in-Fixed : goal.returns-in_err-try_from-in-Fixed
returns-in_err-try_from-in-Fixed c =
    let p = err_from_is_err_and c.from_residual-in_err-try_from-in-Fixed.result c.from_residual-in_err-try_from-in-Fixed.ensures.1 in
    rw p.1 (ap good c.in-Fixed.is ∙ rank-bad _ c.in_err-try_from-in-Fixed.ensures)

pub returns-in_err-try_from-in-Fair : goal.returns-in_err-try_from-in-Fair
returns-in_err-try_from-in-Fair c =
    let p = err_from_is_err_and c.from_residual-in_err-try_from-in-Fair.result c.from_residual-in_err-try_from-in-Fair.ensures.1 in
    rw p.1 (ap good c.in-Fair.is ∙ weight-bad _ c.in_err-try_from-in-Fair.ensures)

pub returns-in_ok-new-in-Reserved : goal.returns-in_ok-new-in-Reserved
returns-in_ok-new-in-Reserved c =
    let e = c.in_ok-new-in-Reserved.ensures in
    (reservation-kind _ _ c.in_ok-new-in-Reserved.field-0 e.0 e.1 ∙ sym c.in-Reserved.is, ap good c.in-Reserved.is ∙ reservation-good _ _ e.2)

pub returns-in_ok-try_from-in-Fixed : goal.returns-in_ok-try_from-in-Fixed
returns-in_ok-try_from-in-Fixed c =
    let e = c.in_ok-try_from-in-Fixed.ensures in
    (rank-kind _ c.in_ok-try_from-in-Fixed.field-0 e.0 ∙ sym c.in-Fixed.is, ap good c.in-Fixed.is ∙ rank-good _ e.1)

pub returns-in_ok-try_from-in-Fair : goal.returns-in_ok-try_from-in-Fair
returns-in_ok-try_from-in-Fair c =
    let e = c.in_ok-try_from-in-Fair.ensures in
    (weight-kind _ c.in_ok-try_from-in-Fair.field-0 e.0 ∙ sym c.in-Fair.is, ap good c.in-Fair.is ∙ weight-good _ e.1 e.2)
