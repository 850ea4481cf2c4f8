use Rattle.std.proofs.lemmas.Result.{err_from_is_err_and}
use Rattle.mz_forms.proofs.Words.{word_in_any, word_refuses}
use Rattle.mz_base.specs.declared.place.Place.{Place}
use Rattle.mz_tree.specs.declared.word.Word.{Word}
use Rattle.mz_tree.specs.Spelled.{equals_sign}
use Rattle.mz_pterm.specs.declared.sign.Sign.TheVariants as signs
use Rattle.mz_pterm.specs.Words.{named}
use Rattle.mz_pstep.proofs.Sequences.{named_refused_1, named_refused_2, named_refused_3, named_found}
use Rattle.mz_pstep.proofs.equalities.named_term.Goals as goal

pub returns-in_err-name : goal.returns-in_err-name
returns-in_err-name c =
    let p = err_from_is_err_and c.from_residual.result c.from_residual.ensures.1 in
    rw (p.1, p.2) (named_refused_1 c.args.room _ _ _ (word_refuses Word (named signs.Identifier) c.args.room _ _ _ c.in_err-name.ensures))

pub returns-in_err-equals : goal.returns-in_err-equals
returns-in_err-equals c =
    let p = err_from_is_err_and c.from_residual-in_err-equals.result c.from_residual-in_err-equals.ensures.1 in
    rw (p.1, p.2) (named_refused_2 c.args.room _ _ _ (word_in_any Word (named signs.Identifier) c.args.room _ _ _ c.in_ok-name.ensures) _ _ (word_refuses Place equals_sign c.args.room _ _ _ c.in_err-equals.ensures))

pub returns-in_err-node : goal.returns-in_err-node
returns-in_err-node c =
    let p = err_from_is_err_and c.from_residual-in_err-node.result c.from_residual-in_err-node.ensures.1 in
    rw (p.1, p.2) (named_refused_3 c.args.room _ _ _ (word_in_any Word (named signs.Identifier) c.args.room _ _ _ c.in_ok-name.ensures) _ _ (word_in_any Place equals_sign c.args.room _ _ _ c.in_ok-equals.ensures) _ _ c.in_err-node.ensures)

pub returns : goal.returns
returns c = rw c.from_node-term.ensures (named_found c.args.room _ _ _ (word_in_any Word (named signs.Identifier) c.args.room _ _ _ c.in_ok-name.ensures) _ _ (word_in_any Place equals_sign c.args.room _ _ _ c.in_ok-equals.ensures) _ _ c.in_ok-node.ensures)
