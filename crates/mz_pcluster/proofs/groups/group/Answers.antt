use Rattle.std.proofs.lemmas.Result.{err_from_is_err_and}
use Rattle.mz_pcluster.specs.Forms.{behind_group_form}
use Rattle.mz_pcluster.proofs.Joined.{first_refused}
use Rattle.mz_pcluster.proofs.GroupSteps.{parenthesis, joined_group, group_given}
use Rattle.mz_pcluster.proofs.groups.group.Goals as goal

pub returns-in_err-inside : goal.returns-in_err-inside
returns-in_err-inside c =
    let p = err_from_is_err_and c.from_residual.result c.from_residual.ensures.1 in
    rw (p.1, p.2) (first_refused parenthesis behind_group_form joined_group c.args.room _ _ _ c.in_err-inside.ensures)

pub returns : goal.returns
returns c = group_given _ c.args.room _ _ _ _ c.in_ok-inside.ensures c.behind_group.ensures
