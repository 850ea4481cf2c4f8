use Rattle.std.proofs.Common.{refl}
use Rattle.std.proofs.lemmas.Result.{err_from_is_err_and}
use Rattle.mz_forms.proofs.Words.{word_in_any, word_refuses}
use Rattle.mz_base.specs.declared.place.Place.{Place}
use Rattle.mz_pjustification.specs.declared.keyword.Keyword.TheVariants as keywords
use Rattle.mz_pjustification.specs.Words.{key}
use Rattle.mz_pstep.proofs.Sequences.{consider_refused_1, consider_refused_2, consider_refused_3, consider_refused_4, consider_refused_5, consider_found}
use Rattle.mz_pstep.proofs.introductions.consider.Goals as goal

pub returns-in_err-consider : goal.returns-in_err-consider
returns-in_err-consider c =
    let p = err_from_is_err_and c.from_residual.result c.from_residual.ensures.1 in
    rw (p.1, p.2) (consider_refused_1 c.args.room _ _ _ (word_refuses Place (key keywords.Consider) c.args.room _ _ _ c.in_err-consider.ensures))

pub returns-in_err-node : goal.returns-in_err-node
returns-in_err-node c =
    let p = err_from_is_err_and c.from_residual-in_err-node.result c.from_residual-in_err-node.ensures.1 in
    rw (p.1, p.2) (consider_refused_2 c.args.room _ _ _ (word_in_any Place (key keywords.Consider) c.args.room _ _ _ c.in_ok-consider.ensures) _ _ c.in_err-node.ensures)

pub returns-in_err-such : goal.returns-in_err-such
returns-in_err-such c =
    let p = err_from_is_err_and c.from_residual-in_err-such.result c.from_residual-in_err-such.ensures.1 in
    rw (p.1, p.2) (consider_refused_3 c.args.room _ _ _ (word_in_any Place (key keywords.Consider) c.args.room _ _ _ c.in_ok-consider.ensures) _ _ c.in_ok-node.ensures _ _ c.in_err-such.ensures)

pub returns-in_err-simple : goal.returns-in_err-simple
returns-in_err-simple c =
    let p = err_from_is_err_and c.from_residual-in_err-simple.result c.from_residual-in_err-simple.ensures.1 in
    rw (p.1, p.2) (consider_refused_4 c.args.room _ _ _ (word_in_any Place (key keywords.Consider) c.args.room _ _ _ c.in_ok-consider.ensures) _ _ c.in_ok-node.ensures _ _ c.in_ok-such.ensures _ _ c.in_err-simple.ensures)

pub returns-in_err-semicolon : goal.returns-in_err-semicolon
returns-in_err-semicolon c =
    let p = err_from_is_err_and c.from_residual-in_err-semicolon.result c.from_residual-in_err-semicolon.ensures.1 in
    rw (p.1, p.2) (consider_refused_5 c.args.room _ _ _ (word_in_any Place (key keywords.Consider) c.args.room _ _ _ c.in_ok-consider.ensures) _ _ c.in_ok-node.ensures _ _ c.in_ok-such.ensures _ _ c.in_ok-simple.ensures _ _ (word_refuses Place (key keywords.Semicolon) c.args.room _ _ _ c.in_err-semicolon.ensures))

pub returns : goal.returns
returns c = (_, consider_found c.args.room _ _ _ (word_in_any Place (key keywords.Consider) c.args.room _ _ _ c.in_ok-consider.ensures) _ _ c.in_ok-node.ensures _ _ c.in_ok-such.ensures _ _ c.in_ok-simple.ensures _ _ (word_in_any Place (key keywords.Semicolon) c.args.room _ _ _ c.in_ok-semicolon.ensures), rw c.from_node-declarations.ensures refl)
