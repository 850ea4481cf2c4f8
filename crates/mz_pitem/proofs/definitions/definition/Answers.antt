use Rattle.std.specs.Prelude.{codes}
use Rattle.std.proofs.lemmas.Result.{err_from_is_err_and}
use Rattle.mz_base.specs.declared.place.Place.{Place}
use Rattle.mz_forms.proofs.Words.{word_in_any, word_refuses}
use Rattle.mz_pjustification.specs.declared.keyword.Keyword.TheVariants as keywords
use Rattle.mz_pjustification.specs.Words.{key, keyword}
use Rattle.mz_ppattern.specs.Words.{word_form, word_token}
use Rattle.mz_pcluster.proofs.Joined.{first_refused, second_refused, both_found, shaped_refused, shaped_found}
use Rattle.mz_pitem.specs.Forms.{definition_form, definition_parts_form}
use Rattle.mz_pitem.proofs.DefinitionSteps.{as_definition, definition_1, definition_2, definition_3, definition_4, joined_definition_1, joined_definition_2, joined_definition_3, make_definition}
use Rattle.mz_pitem.proofs.definitions.definition.Goals as goal

pub returns-in_err-definition : goal.returns-in_err-definition
returns-in_err-definition c =
    let p = err_from_is_err_and c.from_residual.result c.from_residual.ensures.1 in
    rw (p.1, p.2) (shaped_refused definition_form definition_1 make_definition c.args.room _ (as_definition _) _ _ (first_refused (word_form (codes "definition")) (λ _. definition_2) joined_definition_1 c.args.room _ _ _ (word_refuses Place (word_token (codes "definition")) c.args.room _ _ _ c.in_err-definition.ensures)))

pub returns-in_err-parts : goal.returns-in_err-parts
returns-in_err-parts c =
    let p = err_from_is_err_and c.from_residual-in_err-parts.result c.from_residual-in_err-parts.ensures.1 in
    rw (p.1, p.2) (shaped_refused definition_form definition_1 make_definition c.args.room _ (as_definition _) _ _ (second_refused (word_form (codes "definition")) (λ _. definition_2) joined_definition_1 c.args.room _ _ _ (word_in_any Place (word_token (codes "definition")) c.args.room _ _ _ c.in_ok-definition.ensures) _ _ (first_refused definition_parts_form (λ _. definition_3) joined_definition_2 c.args.room _ _ _ c.in_err-parts.ensures)))

pub returns-in_err-end : goal.returns-in_err-end
returns-in_err-end c =
    let p = err_from_is_err_and c.from_residual-in_err-end.result c.from_residual-in_err-end.ensures.1 in
    rw (p.1, p.2) (shaped_refused definition_form definition_1 make_definition c.args.room _ (as_definition _) _ _ (second_refused (word_form (codes "definition")) (λ _. definition_2) joined_definition_1 c.args.room _ _ _ (word_in_any Place (word_token (codes "definition")) c.args.room _ _ _ c.in_ok-definition.ensures) _ _ (second_refused definition_parts_form (λ _. definition_3) joined_definition_2 c.args.room _ _ _ c.in_ok-parts.ensures _ _ (first_refused (keyword keywords.End) (λ _. definition_4) joined_definition_3 c.args.room _ _ _ (word_refuses Place (key keywords.End) c.args.room _ _ _ c.in_err-end.ensures)))))

pub returns-in_err-semicolon : goal.returns-in_err-semicolon
returns-in_err-semicolon c =
    let p = err_from_is_err_and c.from_residual-in_err-semicolon.result c.from_residual-in_err-semicolon.ensures.1 in
    rw (p.1, p.2) (shaped_refused definition_form definition_1 make_definition c.args.room _ (as_definition _) _ _ (second_refused (word_form (codes "definition")) (λ _. definition_2) joined_definition_1 c.args.room _ _ _ (word_in_any Place (word_token (codes "definition")) c.args.room _ _ _ c.in_ok-definition.ensures) _ _ (second_refused definition_parts_form (λ _. definition_3) joined_definition_2 c.args.room _ _ _ c.in_ok-parts.ensures _ _ (second_refused (keyword keywords.End) (λ _. definition_4) joined_definition_3 c.args.room _ _ _ (word_in_any Place (key keywords.End) c.args.room _ _ _ c.in_ok-end.ensures) _ _ (word_refuses Place (key keywords.Semicolon) c.args.room _ _ _ c.in_err-semicolon.ensures)))))

pub returns : goal.returns
returns c = shaped_found definition_form definition_1 make_definition c.args.room _ (as_definition _) _ _ (both_found (word_form (codes "definition")) (λ _. definition_2) joined_definition_1 c.args.room _ _ _ (word_in_any Place (word_token (codes "definition")) c.args.room _ _ _ c.in_ok-definition.ensures) _ _ (both_found definition_parts_form (λ _. definition_3) joined_definition_2 c.args.room _ _ _ c.in_ok-parts.ensures _ _ (both_found (keyword keywords.End) (λ _. definition_4) joined_definition_3 c.args.room _ _ _ (word_in_any Place (key keywords.End) c.args.room _ _ _ c.in_ok-end.ensures) _ _ (word_in_any Place (key keywords.Semicolon) c.args.room _ _ _ c.in_ok-semicolon.ensures))))
