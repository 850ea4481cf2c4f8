use Rattle.std.proofs.lemmas.Result.{err_from_is_err_and}
use Rattle.mz_forms.proofs.Words.{word_in_any, word_refuses}
use Rattle.mz_base.specs.declared.place.Place.{Place}
use Rattle.mz_pjustification.specs.declared.keyword.Keyword.TheVariants as keywords
use Rattle.mz_pjustification.specs.Words.{key}
use Rattle.mz_pstep.specs.Words.{set_word}
use Rattle.mz_pstep.proofs.Sequences.{set_refused_1, set_refused_2, set_refused_3, set_found}
use Rattle.mz_pstep.proofs.introductions.set_statement.Goals as goal

pub returns-in_err-set : goal.returns-in_err-set
returns-in_err-set c =
    let p = err_from_is_err_and c.from_residual.result c.from_residual.ensures.1 in
    rw (p.1, p.2) (set_refused_1 c.args.room _ _ _ (word_refuses Place set_word c.args.room _ _ _ c.in_err-set.ensures))

pub returns-in_err-named : goal.returns-in_err-named
returns-in_err-named c =
    let p = err_from_is_err_and c.from_residual-in_err-named.result c.from_residual-in_err-named.ensures.1 in
    rw (p.1, p.2) (set_refused_2 c.args.room _ _ _ (word_in_any Place set_word c.args.room _ _ _ c.in_ok-set.ensures) _ _ c.in_err-named.ensures)

pub returns-in_err-semicolon : goal.returns-in_err-semicolon
returns-in_err-semicolon c =
    let p = err_from_is_err_and c.from_residual-in_err-semicolon.result c.from_residual-in_err-semicolon.ensures.1 in
    rw (p.1, p.2) (set_refused_3 c.args.room _ _ _ (word_in_any Place set_word c.args.room _ _ _ c.in_ok-set.ensures) _ _ c.in_ok-named.ensures _ _ (word_refuses Place (key keywords.Semicolon) c.args.room _ _ _ c.in_err-semicolon.ensures))

pub returns : goal.returns
returns c = (set_found c.args.room _ _ _ (word_in_any Place set_word c.args.room _ _ _ c.in_ok-set.ensures) _ _ c.in_ok-named.ensures _ _ (word_in_any Place (key keywords.Semicolon) c.args.room _ _ _ c.in_ok-semicolon.ensures))
