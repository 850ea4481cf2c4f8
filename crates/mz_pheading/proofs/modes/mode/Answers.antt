use Rattle.std.specs.Prelude.{codes}
use Rattle.std.proofs.lemmas.Result.{err_from_is_err_and}
use Rattle.mz_forms.proofs.Words.{word_in_any, word_refuses}
use Rattle.mz_base.specs.declared.place.Place.{Place}
use Rattle.mz_ppattern.specs.Words.{word_token}
use Rattle.mz_pheading.proofs.ModeChoices.{gives_rest}
use Rattle.mz_pheading.proofs.ModeSequences.{mode_refused_1, mode_refused_2}
use Rattle.mz_pheading.proofs.modes.mode.Goals as goal

pub returns-in_err-mode : goal.returns-in_err-mode
returns-in_err-mode c =
    let p = err_from_is_err_and c.from_residual.result c.from_residual.ensures.1 in
    rw (p.1, p.2) (mode_refused_1 c.args.room _ _ _ (word_refuses Place (word_token (codes "mode")) c.args.room _ _ _ c.in_err-mode.ensures))

pub returns-in_err-pattern : goal.returns-in_err-pattern
returns-in_err-pattern c =
    let p = err_from_is_err_and c.from_residual-in_err-pattern.result c.from_residual-in_err-pattern.ensures.1 in
    rw (p.1, p.2) (mode_refused_2 c.args.room _ _ _ (word_in_any Place (word_token (codes "mode")) c.args.room _ _ _ c.in_ok-mode.ensures) _ _ c.in_err-pattern.ensures)

pub returns : goal.returns
returns c = gives_rest c.args.room _ _ _ _ _ _ _ (word_in_any Place (word_token (codes "mode")) c.args.room _ _ _ c.in_ok-mode.ensures) c.in_ok-pattern.ensures c.mode_rest.ensures
