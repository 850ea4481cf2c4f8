use Rattle.std.proofs.Common.{rules, ◌≡◌, true, false}
use Rattle.std.proofs.lemmas.Result.{err_from_is_err_and}
use Rattle.mz_base.specs.declared.place.Place.{Place}
use Rattle.mz_forms.proofs.Words.{word_in_any, word_refuses}
use Rattle.mz_pjustification.specs.declared.keyword.Keyword.TheVariants as keywords
use Rattle.mz_pjustification.specs.Words.{key, keyword}
use Rattle.mz_ppattern.specs.Words.{is_arrow}
use Rattle.mz_ppattern.specs.Optional.{next_has}
use Rattle.mz_pcluster.specs.Classes.{begins_for_type}
use Rattle.mz_pcluster.specs.Forms.{for_type_form, implied_form, bare_type_form, behind_form}
use Rattle.mz_pcluster.proofs.Joined.{first_refused, second_refused, both_found, shaped_refused, shaped_found}
use Rattle.mz_pcluster.proofs.PartSteps.{behind_type, behind_for_type, make_behind_type, make_behind_for, make_behind_implied, joined_behind_type, joined_behind_for, as_behind_implied, as_behind_for, as_behind_type}
use Rattle.mz_pcluster.proofs.parts.behind.Goals as goal

pub returns-in_err-implied : goal.returns-in_err-implied
returns-in_err-implied c =
    let p = err_from_is_err_and c.from_residual.result c.from_residual.ensures.1 in
    let arrow : next_has is_arrow c.args.reader.now.rest.now ≡ true = search rules in
    rw (p.1, p.2) (shaped_refused behind_form implied_form make_behind_implied c.args.room _ (as_behind_implied _ arrow) _ _ c.in_err-implied.ensures)

pub returns-then-arrow_comes : goal.returns-then-arrow_comes
returns-then-arrow_comes c =
    let arrow : next_has is_arrow c.args.reader.now.rest.now ≡ true = search rules in
    shaped_found behind_form implied_form make_behind_implied c.args.room _ (as_behind_implied _ arrow) _ _ c.in_ok-implied.ensures

pub returns-in_err-for_type : goal.returns-in_err-for_type
returns-in_err-for_type c =
    let p = err_from_is_err_and c.from_residual-in_err-for_type.result c.from_residual-in_err-for_type.ensures.1 in
    let on : next_has begins_for_type c.args.reader.now.rest.now ≡ true = search rules in
    rw (p.1, p.2) (shaped_refused behind_form behind_for_type make_behind_for c.args.room _ (as_behind_for _ on) _ _ (first_refused for_type_form (λ _. keyword keywords.Semicolon) joined_behind_for c.args.room _ _ _ c.in_err-for_type.ensures))

pub returns-in_err-semicolon : goal.returns-in_err-semicolon
returns-in_err-semicolon c =
    let p = err_from_is_err_and c.from_residual-in_err-semicolon.result c.from_residual-in_err-semicolon.ensures.1 in
    let on : next_has begins_for_type c.args.reader.now.rest.now ≡ true = search rules in
    rw (p.1, p.2) (shaped_refused behind_form behind_for_type make_behind_for c.args.room _ (as_behind_for _ on) _ _ (second_refused for_type_form (λ _. keyword keywords.Semicolon) joined_behind_for c.args.room _ _ _ c.in_ok-for_type.ensures _ _ (word_refuses Place (key keywords.Semicolon) c.args.room _ _ _ c.in_err-semicolon.ensures)))

pub returns-then-for_comes : goal.returns-then-for_comes
returns-then-for_comes c =
    let on : next_has begins_for_type c.args.reader.now.rest.now ≡ true = search rules in
    shaped_found behind_form behind_for_type make_behind_for c.args.room _ (as_behind_for _ on) _ _ (both_found for_type_form (λ _. keyword keywords.Semicolon) joined_behind_for c.args.room _ _ _ c.in_ok-for_type.ensures _ _ (word_in_any Place (key keywords.Semicolon) c.args.room _ _ _ c.in_ok-semicolon.ensures))

pub returns-in_err-ty : goal.returns-in_err-ty
returns-in_err-ty c =
    let p = err_from_is_err_and c.from_residual-in_err-ty.result c.from_residual-in_err-ty.ensures.1 in
    let away : next_has is_arrow c.args.reader.now.rest.now ≡ false = search rules in
    let off : next_has begins_for_type c.args.reader.now.rest.now ≡ false = search rules in
    rw (p.1, p.2) (shaped_refused behind_form behind_type make_behind_type c.args.room _ (as_behind_type _ away off) _ _ (first_refused bare_type_form (λ _. keyword keywords.Semicolon) joined_behind_type c.args.room _ _ _ c.in_err-ty.ensures))

pub returns-in_err-end : goal.returns-in_err-end
returns-in_err-end c =
    let p = err_from_is_err_and c.from_residual-in_err-end.result c.from_residual-in_err-end.ensures.1 in
    let away : next_has is_arrow c.args.reader.now.rest.now ≡ false = search rules in
    let off : next_has begins_for_type c.args.reader.now.rest.now ≡ false = search rules in
    rw (p.1, p.2) (shaped_refused behind_form behind_type make_behind_type c.args.room _ (as_behind_type _ away off) _ _ (second_refused bare_type_form (λ _. keyword keywords.Semicolon) joined_behind_type c.args.room _ _ _ c.in_ok-ty.ensures _ _ (word_refuses Place (key keywords.Semicolon) c.args.room _ _ _ c.in_err-end.ensures)))

pub returns : goal.returns
returns c =
    let away : next_has is_arrow c.args.reader.now.rest.now ≡ false = search rules in
    let off : next_has begins_for_type c.args.reader.now.rest.now ≡ false = search rules in
    shaped_found behind_form behind_type make_behind_type c.args.room _ (as_behind_type _ away off) _ _ (both_found bare_type_form (λ _. keyword keywords.Semicolon) joined_behind_type c.args.room _ _ _ c.in_ok-ty.ensures _ _ (word_in_any Place (key keywords.Semicolon) c.args.room _ _ _ c.in_ok-end.ensures))
