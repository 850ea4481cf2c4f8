use Rattle.std.specs.Prelude.{codes}
use Rattle.std.proofs.lemmas.Result.{err_from_is_err_and}
use Rattle.mz_base.specs.declared.place.Place.{Place}
use Rattle.mz_forms.proofs.Words.{word_in_any, word_refuses}
use Rattle.mz_pjustification.specs.declared.keyword.Keyword.TheVariants as keywords
use Rattle.mz_pjustification.specs.Words.{key, keyword}
use Rattle.mz_ppattern.specs.Words.{word_form, word_token}
use Rattle.mz_pcluster.proofs.Joined.{first_refused, second_refused, both_found, shaped_refused, shaped_found}
use Rattle.mz_pblock.specs.Forms.{registration_form, registration_parts_form}
use Rattle.mz_pblock.proofs.RegistrationSteps.{as_registration, joined_registration_1, joined_registration_2, joined_registration_3, make_registration, registration_1, registration_2, registration_3, registration_4}
use Rattle.mz_pblock.proofs.registrations.registration.Goals as goal

pub returns-in_err-registration : goal.returns-in_err-registration
returns-in_err-registration c =
    let p = err_from_is_err_and c.from_residual.result c.from_residual.ensures.1 in
    rw (p.1, p.2) (shaped_refused registration_form registration_1 make_registration c.args.room _ (as_registration _) _ _ (first_refused (word_form (codes "registration")) (λ _. registration_2) joined_registration_1 c.args.room _ _ _ (word_refuses Place (word_token (codes "registration")) c.args.room _ _ _ c.in_err-registration.ensures)))

pub returns-in_err-parts : goal.returns-in_err-parts
returns-in_err-parts c =
    let p = err_from_is_err_and c.from_residual-in_err-parts.result c.from_residual-in_err-parts.ensures.1 in
    rw (p.1, p.2) (shaped_refused registration_form registration_1 make_registration c.args.room _ (as_registration _) _ _ (second_refused (word_form (codes "registration")) (λ _. registration_2) joined_registration_1 c.args.room _ _ _ (word_in_any Place (word_token (codes "registration")) c.args.room _ _ _ c.in_ok-registration.ensures) _ _ (first_refused registration_parts_form (λ _. registration_3) joined_registration_2 c.args.room _ _ _ c.in_err-parts.ensures)))

pub returns-in_err-end : goal.returns-in_err-end
returns-in_err-end c =
    let p = err_from_is_err_and c.from_residual-in_err-end.result c.from_residual-in_err-end.ensures.1 in
    rw (p.1, p.2) (shaped_refused registration_form registration_1 make_registration c.args.room _ (as_registration _) _ _ (second_refused (word_form (codes "registration")) (λ _. registration_2) joined_registration_1 c.args.room _ _ _ (word_in_any Place (word_token (codes "registration")) c.args.room _ _ _ c.in_ok-registration.ensures) _ _ (second_refused registration_parts_form (λ _. registration_3) joined_registration_2 c.args.room _ _ _ c.in_ok-parts.ensures _ _ (first_refused (keyword keywords.End) (λ _. registration_4) joined_registration_3 c.args.room _ _ _ (word_refuses Place (key keywords.End) c.args.room _ _ _ c.in_err-end.ensures)))))

pub returns-in_err-semicolon : goal.returns-in_err-semicolon
returns-in_err-semicolon c =
    let p = err_from_is_err_and c.from_residual-in_err-semicolon.result c.from_residual-in_err-semicolon.ensures.1 in
    rw (p.1, p.2) (shaped_refused registration_form registration_1 make_registration c.args.room _ (as_registration _) _ _ (second_refused (word_form (codes "registration")) (λ _. registration_2) joined_registration_1 c.args.room _ _ _ (word_in_any Place (word_token (codes "registration")) c.args.room _ _ _ c.in_ok-registration.ensures) _ _ (second_refused registration_parts_form (λ _. registration_3) joined_registration_2 c.args.room _ _ _ c.in_ok-parts.ensures _ _ (second_refused (keyword keywords.End) (λ _. registration_4) joined_registration_3 c.args.room _ _ _ (word_in_any Place (key keywords.End) c.args.room _ _ _ c.in_ok-end.ensures) _ _ (word_refuses Place (key keywords.Semicolon) c.args.room _ _ _ c.in_err-semicolon.ensures)))))

pub returns : goal.returns
returns c = shaped_found registration_form registration_1 make_registration c.args.room _ (as_registration _) _ _ (both_found (word_form (codes "registration")) (λ _. registration_2) joined_registration_1 c.args.room _ _ _ (word_in_any Place (word_token (codes "registration")) c.args.room _ _ _ c.in_ok-registration.ensures) _ _ (both_found registration_parts_form (λ _. registration_3) joined_registration_2 c.args.room _ _ _ c.in_ok-parts.ensures _ _ (both_found (keyword keywords.End) (λ _. registration_4) joined_registration_3 c.args.room _ _ _ (word_in_any Place (key keywords.End) c.args.room _ _ _ c.in_ok-end.ensures) _ _ (word_in_any Place (key keywords.Semicolon) c.args.room _ _ _ c.in_ok-semicolon.ensures))))
