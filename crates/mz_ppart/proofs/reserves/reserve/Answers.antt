use Rattle.std.proofs.lemmas.Result.{err_from_is_err_and}
use Rattle.mz_forms.proofs.Words.{word_in_any, word_refuses}
use Rattle.std.specs.Prelude.{codes}
use Rattle.mz_base.specs.declared.place.Place.{Place}
use Rattle.mz_pjustification.specs.declared.keyword.Keyword.TheVariants as keywords
use Rattle.mz_pjustification.specs.Words.{key}
use Rattle.mz_ppattern.specs.Words.{word_token}
use Rattle.mz_ppart.proofs.PartSequences.{reserve_refused_1, reserve_refused_2, reserve_refused_3, reserve_found}
use Rattle.mz_ppart.proofs.reserves.reserve.Goals as goal

pub returns-in_err-reserve : goal.returns-in_err-reserve
returns-in_err-reserve c =
    let p = err_from_is_err_and c.from_residual.result c.from_residual.ensures.1 in
    rw (p.1, p.2) (reserve_refused_1 c.args.room _ _ _ (word_refuses Place (word_token (codes "reserve")) c.args.room _ _ _ c.in_err-reserve.ensures))

pub returns-in_err-segments : goal.returns-in_err-segments
returns-in_err-segments c =
    let p = err_from_is_err_and c.from_residual-in_err-segments.result c.from_residual-in_err-segments.ensures.1 in
    rw (p.1, p.2) (reserve_refused_2 c.args.room _ _ _ (word_in_any Place (word_token (codes "reserve")) c.args.room _ _ _ c.in_ok-reserve.ensures) _ _ c.in_err-segments.ensures)

pub returns-in_err-semicolon : goal.returns-in_err-semicolon
returns-in_err-semicolon c =
    let p = err_from_is_err_and c.from_residual-in_err-semicolon.result c.from_residual-in_err-semicolon.ensures.1 in
    rw (p.1, p.2) (reserve_refused_3 c.args.room _ _ _ (word_in_any Place (word_token (codes "reserve")) c.args.room _ _ _ c.in_ok-reserve.ensures) _ _ c.in_ok-segments.ensures _ _ (word_refuses Place (key keywords.Semicolon) c.args.room _ _ _ c.in_err-semicolon.ensures))

pub returns : goal.returns
returns c = reserve_found c.args.room _ _ _ (word_in_any Place (word_token (codes "reserve")) c.args.room _ _ _ c.in_ok-reserve.ensures) _ _ c.in_ok-segments.ensures _ _ (word_in_any Place (key keywords.Semicolon) c.args.room _ _ _ c.in_ok-semicolon.ensures)
