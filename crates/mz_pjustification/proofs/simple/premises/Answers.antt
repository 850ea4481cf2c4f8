use Rattle.std.proofs.lemmas.Result.{err_from_is_err_and}
use Rattle.mz_pjustification.proofs.SimpleSteps.{premises_unopened, premises_unread, premises_unclosed, premises_found}
use Rattle.mz_pjustification.proofs.simple.premises.Goals as goal

pub returns-in_err-left : goal.returns-in_err-left
returns-in_err-left c =
    let p = err_from_is_err_and c.from_residual.result c.from_residual.ensures.1 in
    rw (p.1, p.2) (premises_unopened c.args.room _ _ _ c.in_err-left.ensures.reads)

pub returns-in_err-references : goal.returns-in_err-references
returns-in_err-references c =
    let p = err_from_is_err_and c.from_residual-in_err-references.result c.from_residual-in_err-references.ensures.1 in
    rw (p.1, p.2) (premises_unread c.args.room c.in_ok-left.ensures.room _ _ _ c.in_ok-left.ensures.reads _ _ (c.in_err-references.ensures _))

pub returns-in_err-right : goal.returns-in_err-right
returns-in_err-right c =
    let p = err_from_is_err_and c.from_residual-in_err-right.result c.from_residual-in_err-right.ensures.1 in
    rw (p.1, p.2) (premises_unclosed c.args.room c.in_ok-left.ensures.room _ _ _ c.in_ok-left.ensures.reads _ _ (c.in_ok-references.ensures _) _ _ c.in_err-right.ensures)

pub returns : goal.returns
returns c = premises_found c.args.room c.in_ok-left.ensures.room _ _ _ c.in_ok-left.ensures.reads _ _ (c.in_ok-references.ensures _) _ _ c.in_ok-right.ensures
