use Rattle.std.proofs.lemmas.Result.{err_from_is_err_and}
use Rattle.mz_pcluster.proofs.Joined.{first_refused, second_refused, both_found, shaped_refused, shaped_found}
use Rattle.mz_pblock.specs.Forms.{scheme_form, scheme_head_form, scheme_of, scheme_rest_form}
use Rattle.mz_pblock.proofs.SchemeSteps.{as_scheme, joined_scheme, make_scheme, scheme_1}
use Rattle.mz_pblock.proofs.schemes.scheme.Goals as goal

pub returns-in_err-head : goal.returns-in_err-head
returns-in_err-head c =
    let p = err_from_is_err_and c.from_residual.result c.from_residual.ensures.1 in
    rw (p.1, p.2) (shaped_refused scheme_form scheme_1 make_scheme c.args.room _ (as_scheme _) _ _ (first_refused scheme_head_form (λ _. scheme_rest_form) joined_scheme c.args.room _ _ _ c.in_err-head.ensures))

pub returns-in_err-rest : goal.returns-in_err-rest
returns-in_err-rest c =
    let p = err_from_is_err_and c.from_residual-in_err-rest.result c.from_residual-in_err-rest.ensures.1 in
    rw (p.1, p.2) (shaped_refused scheme_form scheme_1 make_scheme c.args.room _ (as_scheme _) _ _ (second_refused scheme_head_form (λ _. scheme_rest_form) joined_scheme c.args.room _ _ _ c.in_ok-head.ensures _ _ c.in_err-rest.ensures))

pub returns : goal.returns
returns c = rw c.scheme_of.ensures (shaped_found scheme_form scheme_1 make_scheme c.args.room _ (as_scheme _) _ _ (both_found scheme_head_form (λ _. scheme_rest_form) joined_scheme c.args.room _ _ _ c.in_ok-head.ensures _ _ c.in_ok-rest.ensures))
