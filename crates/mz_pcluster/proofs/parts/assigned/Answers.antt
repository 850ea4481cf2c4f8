use Rattle.std.proofs.Common.{false}
use Rattle.std.proofs.lemmas.Result.{err_from_is_err_and}
use Rattle.mz_base.specs.declared.place.Place.{Place}
use Rattle.mz_forms.proofs.Words.{word_in_any, word_refuses}
use Rattle.mz_ptype.specs.Forms.{adjectives_form}
use Rattle.mz_pjustification.specs.declared.keyword.Keyword.TheVariants as keywords
use Rattle.mz_pjustification.specs.Words.{key}
use Rattle.mz_ppattern.specs.Words.{arrow_form, arrow_token}
use Rattle.mz_pcluster.specs.Forms.{optional_for_type, assigned_form}
use Rattle.mz_pcluster.proofs.Joined.{first_refused, second_refused, both_found, shaped_refused, shaped_found}
use Rattle.mz_pcluster.proofs.PartSteps.{assigned_1, assigned_2, assigned_3, assigned_4, joined_assigned_1, joined_assigned_2, joined_assigned_3, make_assigned, as_assigned}
use Rattle.mz_pcluster.proofs.parts.assigned.Goals as goal

pub returns-in_err-arrow : goal.returns-in_err-arrow
returns-in_err-arrow c =
    let p = err_from_is_err_and c.from_residual.result c.from_residual.ensures.1 in
    rw (p.1, p.2) (shaped_refused assigned_form assigned_1 make_assigned c.args.room _ (as_assigned _) _ _ (first_refused arrow_form (λ _. assigned_2) joined_assigned_1 c.args.room _ _ _ (word_refuses Place arrow_token c.args.room _ _ _ c.in_err-arrow.ensures)))

pub returns-in_err-first : goal.returns-in_err-first
returns-in_err-first c =
    let p = err_from_is_err_and c.from_residual-in_err-first.result c.from_residual-in_err-first.ensures.1 in
    rw (p.1, p.2) (shaped_refused assigned_form assigned_1 make_assigned c.args.room _ (as_assigned _) _ _ (second_refused arrow_form (λ _. assigned_2) joined_assigned_1 c.args.room _ _ _ (word_in_any Place arrow_token c.args.room _ _ _ c.in_ok-arrow.ensures) _ _ (first_refused (adjectives_form false) (λ _. assigned_3) joined_assigned_2 c.args.room _ _ _ c.in_err-first.ensures)))

pub returns-in_err-for_type : goal.returns-in_err-for_type
returns-in_err-for_type c =
    let p = err_from_is_err_and c.from_residual-in_err-for_type.result c.from_residual-in_err-for_type.ensures.1 in
    rw (p.1, p.2) (shaped_refused assigned_form assigned_1 make_assigned c.args.room _ (as_assigned _) _ _ (second_refused arrow_form (λ _. assigned_2) joined_assigned_1 c.args.room _ _ _ (word_in_any Place arrow_token c.args.room _ _ _ c.in_ok-arrow.ensures) _ _ (second_refused (adjectives_form false) (λ _. assigned_3) joined_assigned_2 c.args.room _ _ _ c.in_ok-first.ensures _ _ (first_refused optional_for_type (λ _. assigned_4) joined_assigned_3 c.args.room _ _ _ c.in_err-for_type.ensures))))

pub returns-in_err-semicolon : goal.returns-in_err-semicolon
returns-in_err-semicolon c =
    let p = err_from_is_err_and c.from_residual-in_err-semicolon.result c.from_residual-in_err-semicolon.ensures.1 in
    rw (p.1, p.2) (shaped_refused assigned_form assigned_1 make_assigned c.args.room _ (as_assigned _) _ _ (second_refused arrow_form (λ _. assigned_2) joined_assigned_1 c.args.room _ _ _ (word_in_any Place arrow_token c.args.room _ _ _ c.in_ok-arrow.ensures) _ _ (second_refused (adjectives_form false) (λ _. assigned_3) joined_assigned_2 c.args.room _ _ _ c.in_ok-first.ensures _ _ (second_refused optional_for_type (λ _. assigned_4) joined_assigned_3 c.args.room _ _ _ c.in_ok-for_type.ensures _ _ (word_refuses Place (key keywords.Semicolon) c.args.room _ _ _ c.in_err-semicolon.ensures)))))

pub returns : goal.returns
returns c = rw c.from_nodes-adjectives.ensures (shaped_found assigned_form assigned_1 make_assigned c.args.room _ (as_assigned _) _ _ (both_found arrow_form (λ _. assigned_2) joined_assigned_1 c.args.room _ _ _ (word_in_any Place arrow_token c.args.room _ _ _ c.in_ok-arrow.ensures) _ _ (both_found (adjectives_form false) (λ _. assigned_3) joined_assigned_2 c.args.room _ _ _ c.in_ok-first.ensures _ _ (both_found optional_for_type (λ _. assigned_4) joined_assigned_3 c.args.room _ _ _ c.in_ok-for_type.ensures _ _ (word_in_any Place (key keywords.Semicolon) c.args.room _ _ _ c.in_ok-semicolon.ensures)))))
