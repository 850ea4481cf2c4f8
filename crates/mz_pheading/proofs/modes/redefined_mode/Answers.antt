use Rattle.std.proofs.lemmas.Result.{err_from_is_err_and}
use Rattle.mz_forms.proofs.Words.{word_in_any, word_refuses}
use Rattle.std.specs.Prelude.{codes}
use Rattle.mz_base.specs.declared.place.Place.{Place}
use Rattle.mz_pjustification.specs.declared.keyword.Keyword.TheVariants as keywords
use Rattle.mz_pjustification.specs.Words.{key}
use Rattle.mz_ppattern.specs.Words.{word_token}
use Rattle.std.specs.Prelude.{is_some}
use Rattle.std.proofs.Common.{rules, ◌≡◌}
use Rattle.mz_pheading.proofs.ModeChoices.{meaning_found_at, meaning_refused_at}
use Rattle.mz_pheading.proofs.ModeChoices.{redefined_refused_1, redefined_refused_2, redefined_refused_3, redefined_refused_4, redefined_refused_5, redefined_found}
use Rattle.mz_pheading.proofs.modes.redefined_mode.Goals as goal

pub returns-in_err-mode : goal.returns-in_err-mode
returns-in_err-mode c =
    let p = err_from_is_err_and c.from_residual.result c.from_residual.ensures.1 in
    rw (p.1, p.2) (redefined_refused_1 c.args.room _ _ _ (word_refuses Place (word_token (codes "mode")) c.args.room _ _ _ c.in_err-mode.ensures))

pub returns-in_err-pattern : goal.returns-in_err-pattern
returns-in_err-pattern c =
    let p = err_from_is_err_and c.from_residual-in_err-pattern.result c.from_residual-in_err-pattern.ensures.1 in
    rw (p.1, p.2) (redefined_refused_2 c.args.room _ _ _ (word_in_any Place (word_token (codes "mode")) c.args.room _ _ _ c.in_ok-mode.ensures) _ _ c.in_err-pattern.ensures)

pub returns-in_err-result : goal.returns-in_err-result
returns-in_err-result c =
    let p = err_from_is_err_and c.from_residual-in_err-result.result c.from_residual-in_err-result.ensures.1 in
    rw (p.1, p.2) (redefined_refused_3 c.args.room _ _ _ (word_in_any Place (word_token (codes "mode")) c.args.room _ _ _ c.in_ok-mode.ensures) _ _ c.in_ok-pattern.ensures _ _ c.in_err-result.ensures)

pub returns-in_err-meaning : goal.returns-in_err-meaning
returns-in_err-meaning c =
    let p = err_from_is_err_and c.from_residual-in_err-meaning.result c.from_residual-in_err-meaning.ensures.1 in
    let same : c.is_some.result ≡ is_some c.in_ok-result.result = search rules in
    rw (p.1, p.2) (redefined_refused_4 c.args.room _ _ _ (word_in_any Place (word_token (codes "mode")) c.args.room _ _ _ c.in_ok-mode.ensures) _ _ c.in_ok-pattern.ensures _ _ c.in_ok-result.ensures _ _ (meaning_refused_at c.is_some.result (is_some c.in_ok-result.result) same c.args.room _ _ _ c.in_err-meaning.ensures))

pub returns-in_err-semicolon : goal.returns-in_err-semicolon
returns-in_err-semicolon c =
    let p = err_from_is_err_and c.from_residual-in_err-semicolon.result c.from_residual-in_err-semicolon.ensures.1 in
    let same : c.is_some.result ≡ is_some c.in_ok-result.result = search rules in
    rw (p.1, p.2) (redefined_refused_5 c.args.room _ _ _ (word_in_any Place (word_token (codes "mode")) c.args.room _ _ _ c.in_ok-mode.ensures) _ _ c.in_ok-pattern.ensures _ _ c.in_ok-result.ensures _ _ (meaning_found_at c.is_some.result (is_some c.in_ok-result.result) same c.args.room _ _ _ c.in_ok-meaning.ensures) _ _ (word_refuses Place (key keywords.Semicolon) c.args.room _ _ _ c.in_err-semicolon.ensures))

pub returns : goal.returns
returns c =
    let same : c.is_some.result ≡ is_some c.in_ok-result.result = search rules in
    redefined_found c.args.room _ _ _ (word_in_any Place (word_token (codes "mode")) c.args.room _ _ _ c.in_ok-mode.ensures) _ _ c.in_ok-pattern.ensures _ _ c.in_ok-result.ensures _ _ (meaning_found_at c.is_some.result (is_some c.in_ok-result.result) same c.args.room _ _ _ c.in_ok-meaning.ensures) _ _ (word_in_any Place (key keywords.Semicolon) c.args.room _ _ _ c.in_ok-semicolon.ensures)
