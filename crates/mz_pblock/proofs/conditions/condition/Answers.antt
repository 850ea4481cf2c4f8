use Rattle.std.proofs.lemmas.Result.{err_from_is_err_and}
use Rattle.mz_base.specs.declared.place.Place.{Place}
use Rattle.mz_forms.proofs.Words.{word_in_any, word_refuses}
use Rattle.mz_pjustification.specs.declared.keyword.Keyword.TheVariants as keywords
use Rattle.mz_pjustification.specs.Words.{key, keyword}
use Rattle.mz_pcluster.proofs.Joined.{first_refused, second_refused, both_found, shaped_refused, shaped_found}
use Rattle.mz_pproof.specs.Forms.{just_form}
use Rattle.mz_pblock.specs.Forms.{condition_form, condition_word_form}
use Rattle.mz_pblock.proofs.ConditionSteps.{as_condition, condition_1, joined_condition, joined_just, just_1, make_condition}
use Rattle.mz_pblock.proofs.conditions.condition.Goals as goal

pub returns-in_err-word : goal.returns-in_err-word
returns-in_err-word c =
    let p = err_from_is_err_and c.from_residual.result c.from_residual.ensures.1 in
    rw (p.1, p.2) (shaped_refused condition_form condition_1 make_condition c.args.room _ (as_condition _) _ _ (first_refused condition_word_form (λ _. just_1) joined_condition c.args.room _ _ _ (c.in_err-word.ensures c.args.room)))

pub returns-in_err-just : goal.returns-in_err-just
returns-in_err-just c =
    let p = err_from_is_err_and c.from_residual-in_err-just.result c.from_residual-in_err-just.ensures.1 in
    rw (p.1, p.2) (shaped_refused condition_form condition_1 make_condition c.args.room _ (as_condition _) _ _ (second_refused condition_word_form (λ _. just_1) joined_condition c.args.room _ _ _ (c.in_ok-word.ensures c.args.room) _ _ (first_refused just_form (λ _. keyword keywords.Semicolon) joined_just c.args.room _ _ _ c.in_err-just.ensures)))

pub returns-in_err-semicolon : goal.returns-in_err-semicolon
returns-in_err-semicolon c =
    let p = err_from_is_err_and c.from_residual-in_err-semicolon.result c.from_residual-in_err-semicolon.ensures.1 in
    rw (p.1, p.2) (shaped_refused condition_form condition_1 make_condition c.args.room _ (as_condition _) _ _ (second_refused condition_word_form (λ _. just_1) joined_condition c.args.room _ _ _ (c.in_ok-word.ensures c.args.room) _ _ (second_refused just_form (λ _. keyword keywords.Semicolon) joined_just c.args.room _ _ _ c.in_ok-just.ensures _ _ (word_refuses Place (key keywords.Semicolon) c.args.room _ _ _ c.in_err-semicolon.ensures))))

pub returns : goal.returns
returns c = shaped_found condition_form condition_1 make_condition c.args.room _ (as_condition _) _ _ (both_found condition_word_form (λ _. just_1) joined_condition c.args.room _ _ _ (c.in_ok-word.ensures c.args.room) _ _ (both_found just_form (λ _. keyword keywords.Semicolon) joined_just c.args.room _ _ _ c.in_ok-just.ensures _ _ (word_in_any Place (key keywords.Semicolon) c.args.room _ _ _ c.in_ok-semicolon.ensures)))
