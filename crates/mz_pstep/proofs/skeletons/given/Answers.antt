use Rattle.std.proofs.lemmas.Result.{err_from_is_err_and}
use Rattle.mz_forms.proofs.Words.{word_in_any, word_refuses}
use Rattle.mz_base.specs.declared.place.Place.{Place}
use Rattle.mz_pjustification.specs.declared.keyword.Keyword.TheVariants as keywords
use Rattle.mz_pjustification.specs.Words.{key}
use Rattle.mz_pstep.proofs.StepSequences.{given_refused_1, given_refused_2, given_refused_3, given_refused_4, given_found}
use Rattle.mz_pstep.proofs.skeletons.given.Goals as goal

pub returns-in_err-given : goal.returns-in_err-given
returns-in_err-given c =
    let p = err_from_is_err_and c.from_residual.result c.from_residual.ensures.1 in
    rw (p.1, p.2) (given_refused_1 c.args.room _ _ _ (word_refuses Place (key keywords.Given) c.args.room _ _ _ c.in_err-given.ensures))

pub returns-in_err-node : goal.returns-in_err-node
returns-in_err-node c =
    let p = err_from_is_err_and c.from_residual-in_err-node.result c.from_residual-in_err-node.ensures.1 in
    rw (p.1, p.2) (given_refused_2 c.args.room _ _ _ (word_in_any Place (key keywords.Given) c.args.room _ _ _ c.in_ok-given.ensures) _ _ c.in_err-node.ensures)

pub returns-in_err-such : goal.returns-in_err-such
returns-in_err-such c =
    let p = err_from_is_err_and c.from_residual-in_err-such.result c.from_residual-in_err-such.ensures.1 in
    rw (p.1, p.2) (given_refused_3 c.args.room _ _ _ (word_in_any Place (key keywords.Given) c.args.room _ _ _ c.in_ok-given.ensures) _ _ c.in_ok-node.ensures _ _ c.in_err-such.ensures)

pub returns-in_err-semicolon : goal.returns-in_err-semicolon
returns-in_err-semicolon c =
    let p = err_from_is_err_and c.from_residual-in_err-semicolon.result c.from_residual-in_err-semicolon.ensures.1 in
    rw (p.1, p.2) (given_refused_4 c.args.room _ _ _ (word_in_any Place (key keywords.Given) c.args.room _ _ _ c.in_ok-given.ensures) _ _ c.in_ok-node.ensures _ _ c.in_ok-such.ensures _ _ (word_refuses Place (key keywords.Semicolon) c.args.room _ _ _ c.in_err-semicolon.ensures))

pub returns : goal.returns
returns c = rw c.from_node-declarations.ensures (given_found c.args.room _ _ _ (word_in_any Place (key keywords.Given) c.args.room _ _ _ c.in_ok-given.ensures) _ _ c.in_ok-node.ensures _ _ c.in_ok-such.ensures _ _ (word_in_any Place (key keywords.Semicolon) c.args.room _ _ _ c.in_ok-semicolon.ensures))
