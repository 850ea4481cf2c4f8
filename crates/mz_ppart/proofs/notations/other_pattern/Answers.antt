use Rattle.std.proofs.lemmas.Result.{err_from_is_err_and}
use Rattle.mz_forms.proofs.Words.{word_in_any, word_refuses}
use Rattle.mz_base.specs.declared.place.Place.{Place}
use Rattle.mz_pterm.specs.declared.sign.Sign.TheVariants as signs
use Rattle.mz_pterm.specs.Words.{fixed}
use Rattle.mz_pjustification.specs.declared.keyword.Keyword.TheVariants as keywords
use Rattle.mz_pjustification.specs.Words.{key}
use Rattle.mz_ppart.proofs.PartSequences.{other_refused_1, other_refused_2, other_refused_3, other_found}
use Rattle.mz_ppart.proofs.notations.other_pattern.Goals as goal

pub returns-in_err-for_ : goal.returns-in_err-for_
returns-in_err-for_ c =
    let p = err_from_is_err_and c.from_residual.result c.from_residual.ensures.1 in
    rw (p.1, p.2) (other_refused_1 c.args.room _ _ _ (word_refuses Place (fixed signs.For) c.args.room _ _ _ c.in_err-for_.ensures))

pub returns-in_err-second : goal.returns-in_err-second
returns-in_err-second c =
    let p = err_from_is_err_and c.from_residual-in_err-second.result c.from_residual-in_err-second.ensures.1 in
    rw (p.1, p.2) (other_refused_2 c.args.room _ _ _ (word_in_any Place (fixed signs.For) c.args.room _ _ _ c.in_ok-for_.ensures) _ _ c.in_err-second.ensures)

pub returns-in_err-semicolon : goal.returns-in_err-semicolon
returns-in_err-semicolon c =
    let p = err_from_is_err_and c.from_residual-in_err-semicolon.result c.from_residual-in_err-semicolon.ensures.1 in
    rw (p.1, p.2) (other_refused_3 c.args.room _ _ _ (word_in_any Place (fixed signs.For) c.args.room _ _ _ c.in_ok-for_.ensures) _ _ c.in_ok-second.ensures _ _ (word_refuses Place (key keywords.Semicolon) c.args.room _ _ _ c.in_err-semicolon.ensures))

pub returns : goal.returns
returns c = other_found c.args.room _ _ _ (word_in_any Place (fixed signs.For) c.args.room _ _ _ c.in_ok-for_.ensures) _ _ c.in_ok-second.ensures _ _ (word_in_any Place (key keywords.Semicolon) c.args.room _ _ _ c.in_ok-semicolon.ensures)
