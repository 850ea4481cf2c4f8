use Rattle.std.proofs.lemmas.Result.{err_from_is_err_and}
use Rattle.mz_forms.proofs.Words.{word_in_any, word_refuses}
use Rattle.mz_base.specs.declared.place.Place.{Place}
use Rattle.mz_pjustification.specs.declared.keyword.Keyword.TheVariants as keywords
use Rattle.mz_pjustification.specs.Words.{key}
use Rattle.mz_pstep.proofs.Sequences.{equality_refused_1, equality_refused_2, equality_refused_3, equality_found}
use Rattle.mz_pstep.proofs.equalities.equality_step.Goals as goal

pub returns-in_err-sign : goal.returns-in_err-sign
returns-in_err-sign c =
    let p = err_from_is_err_and c.from_residual.result c.from_residual.ensures.1 in
    rw (p.1, p.2) (equality_refused_1 c.args.room _ _ _ (word_refuses Place (key keywords.Link) c.args.room _ _ _ c.in_err-sign.ensures))

pub returns-in_err-node : goal.returns-in_err-node
returns-in_err-node c =
    let p = err_from_is_err_and c.from_residual-in_err-node.result c.from_residual-in_err-node.ensures.1 in
    rw (p.1, p.2) (equality_refused_2 c.args.room _ _ _ (word_in_any Place (key keywords.Link) c.args.room _ _ _ c.in_ok-sign.ensures) _ _ c.in_err-node.ensures)

pub returns-in_err-simple : goal.returns-in_err-simple
returns-in_err-simple c =
    let p = err_from_is_err_and c.from_residual-in_err-simple.result c.from_residual-in_err-simple.ensures.1 in
    rw (p.1, p.2) (equality_refused_3 c.args.room _ _ _ (word_in_any Place (key keywords.Link) c.args.room _ _ _ c.in_ok-sign.ensures) _ _ c.in_ok-node.ensures _ _ c.in_err-simple.ensures)

pub returns : goal.returns
returns c = rw c.from_node-term.ensures (equality_found c.args.room _ _ _ (word_in_any Place (key keywords.Link) c.args.room _ _ _ c.in_ok-sign.ensures) _ _ c.in_ok-node.ensures _ _ c.in_ok-simple.ensures)
