use Rattle.std.proofs.lemmas.Result.{err_from_is_err_and}
use Rattle.mz_pitem.specs.Classes.{is_due}
use Rattle.mz_pitem.proofs.DefinitionSteps.{behind_found, behind_refused}
use Rattle.mz_pitem.proofs.definitions.behind_heading.Goals as goal

pub returns-in_err-heading : goal.returns-in_err-heading
returns-in_err-heading c =
    let p = err_from_is_err_and c.from_residual.result c.from_residual.ensures.1 in
    rw (p.1, p.2) (behind_refused c.args.room c.args.heading _ _ _ _ _ c.is_due.ensures c.owed-conditions.ensures c.in_err-heading.ensures)

pub returns : goal.returns
returns c = behind_found c.args.room c.args.heading _ _ _ _ _ _ c.is_due.ensures c.owed-conditions.ensures c.in_ok-heading.ensures
