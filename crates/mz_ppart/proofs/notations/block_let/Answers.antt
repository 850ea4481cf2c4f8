use Rattle.std.proofs.lemmas.Result.{err_from_is_err_and}
use Rattle.mz_forms.proofs.Words.{word_in_any, word_refuses}
use Rattle.mz_base.specs.declared.place.Place.{Place}
use Rattle.mz_pjustification.specs.declared.keyword.Keyword.TheVariants as keywords
use Rattle.mz_pjustification.specs.Words.{key}
use Rattle.mz_ppart.proofs.PartSequences.{block_let_refused_1, block_let_refused_2, block_let_refused_3, block_let_found}
use Rattle.mz_ppart.proofs.notations.block_let.Goals as goal

pub returns-in_err-let_ : goal.returns-in_err-let_
returns-in_err-let_ c =
    let p = err_from_is_err_and c.from_residual.result c.from_residual.ensures.1 in
    rw (p.1, p.2) (block_let_refused_1 c.args.room _ _ _ (word_refuses Place (key keywords.Let) c.args.room _ _ _ c.in_err-let_.ensures))

pub returns-in_err-node : goal.returns-in_err-node
returns-in_err-node c =
    let p = err_from_is_err_and c.from_residual-in_err-node.result c.from_residual-in_err-node.ensures.1 in
    rw (p.1, p.2) (block_let_refused_2 c.args.room _ _ _ (word_in_any Place (key keywords.Let) c.args.room _ _ _ c.in_ok-let_.ensures) _ _ c.in_err-node.ensures)

pub returns-in_err-semicolon : goal.returns-in_err-semicolon
returns-in_err-semicolon c =
    let p = err_from_is_err_and c.from_residual-in_err-semicolon.result c.from_residual-in_err-semicolon.ensures.1 in
    rw (p.1, p.2) (block_let_refused_3 c.args.room _ _ _ (word_in_any Place (key keywords.Let) c.args.room _ _ _ c.in_ok-let_.ensures) _ _ c.in_ok-node.ensures _ _ (word_refuses Place (key keywords.Semicolon) c.args.room _ _ _ c.in_err-semicolon.ensures))

pub returns : goal.returns
returns c = rw c.from_node-declarations.ensures (block_let_found c.args.room _ _ _ (word_in_any Place (key keywords.Let) c.args.room _ _ _ c.in_ok-let_.ensures) _ _ c.in_ok-node.ensures _ _ (word_in_any Place (key keywords.Semicolon) c.args.room _ _ _ c.in_ok-semicolon.ensures))
