use Rattle.std.proofs.Common.{false}
use Rattle.std.proofs.lemmas.Result.{err_from_is_err_and}
use Rattle.mz_base.specs.declared.place.Place.{Place}
use Rattle.mz_forms.proofs.Words.{word_in_any, word_refuses}
use Rattle.mz_pjustification.specs.declared.keyword.Keyword.TheVariants as keywords
use Rattle.mz_pjustification.specs.Words.{key, keyword}
use Rattle.mz_pcluster.proofs.Joined.{first_refused, second_refused, both_found, shaped_refused, shaped_found}
use Rattle.mz_pproof.specs.Forms.{just_form}
use Rattle.mz_pformula.specs.Forms.{formula_form}
use Rattle.mz_pblock.specs.Forms.{optional_provided, scheme_rest_form}
use Rattle.mz_pblock.proofs.ConditionSteps.{joined_just, just_1}
use Rattle.mz_pblock.proofs.SchemeSteps.{as_scheme_rest, joined_scheme_rest_1, joined_scheme_rest_2, joined_scheme_rest_3, make_scheme_rest, scheme_rest_1, scheme_rest_2, scheme_rest_3}
use Rattle.mz_pblock.proofs.schemes.scheme_rest.Goals as goal

pub returns-in_err-colon : goal.returns-in_err-colon
returns-in_err-colon c =
    let p = err_from_is_err_and c.from_residual.result c.from_residual.ensures.1 in
    rw (p.1, p.2) (shaped_refused scheme_rest_form scheme_rest_1 make_scheme_rest c.args.room _ (as_scheme_rest _) _ _ (first_refused (keyword keywords.Colon) (λ _. scheme_rest_2) joined_scheme_rest_1 c.args.room _ _ _ (word_refuses Place (key keywords.Colon) c.args.room _ _ _ c.in_err-colon.ensures)))

pub returns-in_err-node : goal.returns-in_err-node
returns-in_err-node c =
    let p = err_from_is_err_and c.from_residual-in_err-node.result c.from_residual-in_err-node.ensures.1 in
    rw (p.1, p.2) (shaped_refused scheme_rest_form scheme_rest_1 make_scheme_rest c.args.room _ (as_scheme_rest _) _ _ (second_refused (keyword keywords.Colon) (λ _. scheme_rest_2) joined_scheme_rest_1 c.args.room _ _ _ (word_in_any Place (key keywords.Colon) c.args.room _ _ _ c.in_ok-colon.ensures) _ _ (first_refused (formula_form false) (λ _. scheme_rest_3) joined_scheme_rest_2 c.args.room _ _ _ c.in_err-node.ensures)))

pub returns-in_err-provided : goal.returns-in_err-provided
returns-in_err-provided c =
    let p = err_from_is_err_and c.from_residual-in_err-provided.result c.from_residual-in_err-provided.ensures.1 in
    rw (p.1, p.2) (shaped_refused scheme_rest_form scheme_rest_1 make_scheme_rest c.args.room _ (as_scheme_rest _) _ _ (second_refused (keyword keywords.Colon) (λ _. scheme_rest_2) joined_scheme_rest_1 c.args.room _ _ _ (word_in_any Place (key keywords.Colon) c.args.room _ _ _ c.in_ok-colon.ensures) _ _ (second_refused (formula_form false) (λ _. scheme_rest_3) joined_scheme_rest_2 c.args.room _ _ _ c.in_ok-node.ensures.0 _ _ (first_refused optional_provided (λ _. just_1) joined_scheme_rest_3 c.args.room _ _ _ c.in_err-provided.ensures))))

pub returns-in_err-just : goal.returns-in_err-just
returns-in_err-just c =
    let p = err_from_is_err_and c.from_residual-in_err-just.result c.from_residual-in_err-just.ensures.1 in
    rw (p.1, p.2) (shaped_refused scheme_rest_form scheme_rest_1 make_scheme_rest c.args.room _ (as_scheme_rest _) _ _ (second_refused (keyword keywords.Colon) (λ _. scheme_rest_2) joined_scheme_rest_1 c.args.room _ _ _ (word_in_any Place (key keywords.Colon) c.args.room _ _ _ c.in_ok-colon.ensures) _ _ (second_refused (formula_form false) (λ _. scheme_rest_3) joined_scheme_rest_2 c.args.room _ _ _ c.in_ok-node.ensures.0 _ _ (second_refused optional_provided (λ _. just_1) joined_scheme_rest_3 c.args.room _ _ _ c.in_ok-provided.ensures _ _ (first_refused just_form (λ _. keyword keywords.Semicolon) joined_just c.args.room _ _ _ c.in_err-just.ensures)))))

pub returns-in_err-semicolon : goal.returns-in_err-semicolon
returns-in_err-semicolon c =
    let p = err_from_is_err_and c.from_residual-in_err-semicolon.result c.from_residual-in_err-semicolon.ensures.1 in
    rw (p.1, p.2) (shaped_refused scheme_rest_form scheme_rest_1 make_scheme_rest c.args.room _ (as_scheme_rest _) _ _ (second_refused (keyword keywords.Colon) (λ _. scheme_rest_2) joined_scheme_rest_1 c.args.room _ _ _ (word_in_any Place (key keywords.Colon) c.args.room _ _ _ c.in_ok-colon.ensures) _ _ (second_refused (formula_form false) (λ _. scheme_rest_3) joined_scheme_rest_2 c.args.room _ _ _ c.in_ok-node.ensures.0 _ _ (second_refused optional_provided (λ _. just_1) joined_scheme_rest_3 c.args.room _ _ _ c.in_ok-provided.ensures _ _ (second_refused just_form (λ _. keyword keywords.Semicolon) joined_just c.args.room _ _ _ c.in_ok-just.ensures _ _ (word_refuses Place (key keywords.Semicolon) c.args.room _ _ _ c.in_err-semicolon.ensures))))))

pub returns : goal.returns
returns c = rw c.from_node.ensures (shaped_found scheme_rest_form scheme_rest_1 make_scheme_rest c.args.room _ (as_scheme_rest _) _ _ (both_found (keyword keywords.Colon) (λ _. scheme_rest_2) joined_scheme_rest_1 c.args.room _ _ _ (word_in_any Place (key keywords.Colon) c.args.room _ _ _ c.in_ok-colon.ensures) _ _ (both_found (formula_form false) (λ _. scheme_rest_3) joined_scheme_rest_2 c.args.room _ _ _ c.in_ok-node.ensures.0 _ _ (both_found optional_provided (λ _. just_1) joined_scheme_rest_3 c.args.room _ _ _ c.in_ok-provided.ensures _ _ (both_found just_form (λ _. keyword keywords.Semicolon) joined_just c.args.room _ _ _ c.in_ok-just.ensures _ _ (word_in_any Place (key keywords.Semicolon) c.args.room _ _ _ c.in_ok-semicolon.ensures))))))
