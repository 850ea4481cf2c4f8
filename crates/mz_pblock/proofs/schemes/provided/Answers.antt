use Rattle.std.specs.Prelude.{codes}
use Rattle.std.proofs.lemmas.Result.{err_from_is_err_and}
use Rattle.mz_base.specs.declared.place.Place.{Place}
use Rattle.mz_forms.proofs.Words.{word_in_any, word_refuses}
use Rattle.mz_ppattern.specs.Words.{word_form, word_token}
use Rattle.mz_pcluster.proofs.Joined.{first_refused, second_refused, both_found, shaped_refused, shaped_found}
use Rattle.mz_pproposition.specs.Forms.{propositions_form}
use Rattle.mz_pblock.specs.Forms.{provided_form}
use Rattle.mz_pblock.proofs.SchemeSteps.{as_provided, joined_provided, make_provided, provided_1}
use Rattle.mz_pblock.proofs.schemes.provided.Goals as goal

pub returns-in_err-provided : goal.returns-in_err-provided
returns-in_err-provided c =
    let p = err_from_is_err_and c.from_residual.result c.from_residual.ensures.1 in
    rw (p.1, p.2) (shaped_refused provided_form provided_1 make_provided c.args.room _ (as_provided _) _ _ (first_refused (word_form (codes "provided")) (λ _. propositions_form) joined_provided c.args.room _ _ _ (word_refuses Place (word_token (codes "provided")) c.args.room _ _ _ c.in_err-provided.ensures)))

pub returns-in_err-propositions : goal.returns-in_err-propositions
returns-in_err-propositions c =
    let p = err_from_is_err_and c.from_residual-in_err-propositions.result c.from_residual-in_err-propositions.ensures.1 in
    rw (p.1, p.2) (shaped_refused provided_form provided_1 make_provided c.args.room _ (as_provided _) _ _ (second_refused (word_form (codes "provided")) (λ _. propositions_form) joined_provided c.args.room _ _ _ (word_in_any Place (word_token (codes "provided")) c.args.room _ _ _ c.in_ok-provided.ensures) _ _ c.in_err-propositions.ensures))

pub returns : goal.returns
returns c = shaped_found provided_form provided_1 make_provided c.args.room _ (as_provided _) _ _ (both_found (word_form (codes "provided")) (λ _. propositions_form) joined_provided c.args.room _ _ _ (word_in_any Place (word_token (codes "provided")) c.args.room _ _ _ c.in_ok-provided.ensures) _ _ c.in_ok-propositions.ensures)
