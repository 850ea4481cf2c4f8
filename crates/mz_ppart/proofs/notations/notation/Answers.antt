use Rattle.std.proofs.lemmas.Result.{err_from_is_err_and}
use Rattle.mz_forms.proofs.Words.{word_in_any, word_refuses}
use Rattle.std.specs.Prelude.{codes}
use Rattle.mz_base.specs.declared.place.Place.{Place}
use Rattle.mz_pjustification.specs.declared.keyword.Keyword.TheVariants as keywords
use Rattle.mz_pjustification.specs.Words.{key}
use Rattle.mz_ppattern.specs.Words.{word_token}
use Rattle.mz_ppart.proofs.PartSequences.{notation_refused_1, notation_refused_2, notation_refused_3, notation_refused_4, notation_found}
use Rattle.mz_ppart.proofs.notations.notation.Goals as goal

pub returns-in_err-notation : goal.returns-in_err-notation
returns-in_err-notation c =
    let p = err_from_is_err_and c.from_residual.result c.from_residual.ensures.1 in
    rw (p.1, p.2) (notation_refused_1 c.args.room _ _ _ (word_refuses Place (word_token (codes "notation")) c.args.room _ _ _ c.in_err-notation.ensures))

pub returns-in_err-parts : goal.returns-in_err-parts
returns-in_err-parts c =
    let p = err_from_is_err_and c.from_residual-in_err-parts.result c.from_residual-in_err-parts.ensures.1 in
    rw (p.1, p.2) (notation_refused_2 c.args.room _ _ _ (word_in_any Place (word_token (codes "notation")) c.args.room _ _ _ c.in_ok-notation.ensures) _ _ c.in_err-parts.ensures)

pub returns-in_err-end : goal.returns-in_err-end
returns-in_err-end c =
    let p = err_from_is_err_and c.from_residual-in_err-end.result c.from_residual-in_err-end.ensures.1 in
    rw (p.1, p.2) (notation_refused_3 c.args.room _ _ _ (word_in_any Place (word_token (codes "notation")) c.args.room _ _ _ c.in_ok-notation.ensures) _ _ c.in_ok-parts.ensures _ _ (word_refuses Place (key keywords.End) c.args.room _ _ _ c.in_err-end.ensures))

pub returns-in_err-semicolon : goal.returns-in_err-semicolon
returns-in_err-semicolon c =
    let p = err_from_is_err_and c.from_residual-in_err-semicolon.result c.from_residual-in_err-semicolon.ensures.1 in
    rw (p.1, p.2) (notation_refused_4 c.args.room _ _ _ (word_in_any Place (word_token (codes "notation")) c.args.room _ _ _ c.in_ok-notation.ensures) _ _ c.in_ok-parts.ensures _ _ (word_in_any Place (key keywords.End) c.args.room _ _ _ c.in_ok-end.ensures) _ _ (word_refuses Place (key keywords.Semicolon) c.args.room _ _ _ c.in_err-semicolon.ensures))

pub returns : goal.returns
returns c = notation_found c.args.room _ _ _ (word_in_any Place (word_token (codes "notation")) c.args.room _ _ _ c.in_ok-notation.ensures) _ _ c.in_ok-parts.ensures _ _ (word_in_any Place (key keywords.End) c.args.room _ _ _ c.in_ok-end.ensures) _ _ (word_in_any Place (key keywords.Semicolon) c.args.room _ _ _ c.in_ok-semicolon.ensures)
