use Rattle.std.proofs.lemmas.Result.{err_from_is_err_and}
use Rattle.mz_pcluster.proofs.Joined.{first_refused, second_refused, both_found, shaped_refused, shaped_found}
use Rattle.mz_pcluster.specs.Forms.{cluster_form}
use Rattle.mz_pblock.specs.Forms.{conditions_form, registered_form}
use Rattle.mz_pblock.proofs.RegistrationSteps.{as_registered, joined_registered, make_registered, registered_1}
use Rattle.mz_pblock.proofs.registrations.registered.Goals as goal

pub returns-in_err-cluster : goal.returns-in_err-cluster
returns-in_err-cluster c =
    let p = err_from_is_err_and c.from_residual.result c.from_residual.ensures.1 in
    rw (p.1, p.2) (shaped_refused registered_form registered_1 make_registered c.args.room _ (as_registered _) _ _ (first_refused cluster_form (λ _. conditions_form) joined_registered c.args.room _ _ _ c.in_err-cluster.ensures))

pub returns-in_err-conditions : goal.returns-in_err-conditions
returns-in_err-conditions c =
    let p = err_from_is_err_and c.from_residual-in_err-conditions.result c.from_residual-in_err-conditions.ensures.1 in
    rw (p.1, p.2) (shaped_refused registered_form registered_1 make_registered c.args.room _ (as_registered _) _ _ (second_refused cluster_form (λ _. conditions_form) joined_registered c.args.room _ _ _ c.in_ok-cluster.ensures _ _ c.in_err-conditions.ensures))

pub returns : goal.returns
returns c = shaped_found registered_form registered_1 make_registered c.args.room _ (as_registered _) _ _ (both_found cluster_form (λ _. conditions_form) joined_registered c.args.room _ _ _ c.in_ok-cluster.ensures _ _ c.in_ok-conditions.ensures)
