use Rattle.std.proofs.lemmas.Result.{err_from_is_err_and}
use Rattle.mz_forms.proofs.Words.{word_in_any, word_refuses}
use Rattle.mz_base.specs.declared.place.Place.{Place}
use Rattle.mz_tree.specs.declared.word.Word.{Word}
use Rattle.mz_tree.specs.Spelled.{equals_sign}
use Rattle.mz_pterm.specs.declared.sign.Sign.TheVariants as signs
use Rattle.mz_pterm.specs.Words.{named}
use Rattle.mz_pjustification.specs.declared.keyword.Keyword.TheVariants as keywords
use Rattle.mz_pjustification.specs.Words.{key}
use Rattle.mz_pstep.proofs.Sequences.{deffunc_refused_1, deffunc_refused_2, deffunc_refused_3, deffunc_refused_4, deffunc_refused_5, deffunc_refused_6, deffunc_refused_7, deffunc_found}
use Rattle.mz_pstep.proofs.introductions.deffunc.Goals as goal

pub returns-in_err-deffunc : goal.returns-in_err-deffunc
returns-in_err-deffunc c =
    let p = err_from_is_err_and c.from_residual.result c.from_residual.ensures.1 in
    rw (p.1, p.2) (deffunc_refused_1 c.args.room _ _ _ (word_refuses Place (key keywords.Deffunc) c.args.room _ _ _ c.in_err-deffunc.ensures))

pub returns-in_err-name : goal.returns-in_err-name
returns-in_err-name c =
    let p = err_from_is_err_and c.from_residual-in_err-name.result c.from_residual-in_err-name.ensures.1 in
    rw (p.1, p.2) (deffunc_refused_2 c.args.room _ _ _ (word_in_any Place (key keywords.Deffunc) c.args.room _ _ _ c.in_ok-deffunc.ensures) _ _ (word_refuses Word (named signs.Identifier) c.args.room _ _ _ c.in_err-name.ensures))

pub returns-in_err-left : goal.returns-in_err-left
returns-in_err-left c =
    let p = err_from_is_err_and c.from_residual-in_err-left.result c.from_residual-in_err-left.ensures.1 in
    rw (p.1, p.2) (deffunc_refused_3 c.args.room _ _ _ (word_in_any Place (key keywords.Deffunc) c.args.room _ _ _ c.in_ok-deffunc.ensures) _ _ (word_in_any Word (named signs.Identifier) c.args.room _ _ _ c.in_ok-name.ensures) _ _ c.in_err-left.ensures.reads)

pub returns-in_err-types : goal.returns-in_err-types
returns-in_err-types c =
    let p = err_from_is_err_and c.from_residual-in_err-types.result c.from_residual-in_err-types.ensures.1 in
    rw (p.1, p.2) (deffunc_refused_4 c.args.room _ _ _ (word_in_any Place (key keywords.Deffunc) c.args.room _ _ _ c.in_ok-deffunc.ensures) _ _ (word_in_any Word (named signs.Identifier) c.args.room _ _ _ c.in_ok-name.ensures) _ _ c.in_ok-left.ensures.reads _ _ c.in_err-types.ensures)

pub returns-in_err-equals : goal.returns-in_err-equals
returns-in_err-equals c =
    let p = err_from_is_err_and c.from_residual-in_err-equals.result c.from_residual-in_err-equals.ensures.1 in
    rw (p.1, p.2) (deffunc_refused_5 c.args.room _ _ _ (word_in_any Place (key keywords.Deffunc) c.args.room _ _ _ c.in_ok-deffunc.ensures) _ _ (word_in_any Word (named signs.Identifier) c.args.room _ _ _ c.in_ok-name.ensures) _ _ c.in_ok-left.ensures.reads _ _ c.in_ok-types.ensures _ _ (word_refuses Place equals_sign c.args.room _ _ _ c.in_err-equals.ensures))

pub returns-in_err-node : goal.returns-in_err-node
returns-in_err-node c =
    let p = err_from_is_err_and c.from_residual-in_err-node.result c.from_residual-in_err-node.ensures.1 in
    rw (p.1, p.2) (deffunc_refused_6 c.args.room _ _ _ (word_in_any Place (key keywords.Deffunc) c.args.room _ _ _ c.in_ok-deffunc.ensures) _ _ (word_in_any Word (named signs.Identifier) c.args.room _ _ _ c.in_ok-name.ensures) _ _ c.in_ok-left.ensures.reads _ _ c.in_ok-types.ensures _ _ (word_in_any Place equals_sign c.args.room _ _ _ c.in_ok-equals.ensures) _ _ c.in_err-node.ensures)

pub returns-in_err-semicolon : goal.returns-in_err-semicolon
returns-in_err-semicolon c =
    let p = err_from_is_err_and c.from_residual-in_err-semicolon.result c.from_residual-in_err-semicolon.ensures.1 in
    rw (p.1, p.2) (deffunc_refused_7 c.args.room _ _ _ (word_in_any Place (key keywords.Deffunc) c.args.room _ _ _ c.in_ok-deffunc.ensures) _ _ (word_in_any Word (named signs.Identifier) c.args.room _ _ _ c.in_ok-name.ensures) _ _ c.in_ok-left.ensures.reads _ _ c.in_ok-types.ensures _ _ (word_in_any Place equals_sign c.args.room _ _ _ c.in_ok-equals.ensures) _ _ c.in_ok-node.ensures _ _ (word_refuses Place (key keywords.Semicolon) c.args.room _ _ _ c.in_err-semicolon.ensures))

pub returns : goal.returns
returns c = rw c.from_node-term.ensures (deffunc_found c.args.room _ _ _ (word_in_any Place (key keywords.Deffunc) c.args.room _ _ _ c.in_ok-deffunc.ensures) _ _ (word_in_any Word (named signs.Identifier) c.args.room _ _ _ c.in_ok-name.ensures) _ _ c.in_ok-left.ensures.reads _ _ c.in_ok-types.ensures _ _ (word_in_any Place equals_sign c.args.room _ _ _ c.in_ok-equals.ensures) _ _ c.in_ok-node.ensures _ _ (word_in_any Place (key keywords.Semicolon) c.args.room _ _ _ c.in_ok-semicolon.ensures))
