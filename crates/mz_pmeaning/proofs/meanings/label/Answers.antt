use Rattle.std.proofs.lemmas.Result.{err_from_is_err_and}
use Rattle.mz_forms.proofs.Words.{word_in_any, word_refuses}
use Rattle.mz_base.specs.declared.place.Place.{Place}
use Rattle.mz_tree.specs.declared.word.Word.{Word}
use Rattle.mz_pterm.specs.declared.sign.Sign.TheVariants as signs
use Rattle.mz_pterm.specs.Words.{named}
use Rattle.mz_pjustification.specs.declared.keyword.Keyword.TheVariants as keywords
use Rattle.mz_pjustification.specs.Words.{key}
use Rattle.mz_pmeaning.proofs.MeaningSequences.{label_refused_1, label_refused_2, label_refused_3, label_found}
use Rattle.mz_pmeaning.proofs.meanings.label.Goals as goal

pub returns-in_err-left : goal.returns-in_err-left
returns-in_err-left c = λ room.
    let p = err_from_is_err_and c.from_residual.result c.from_residual.ensures.1 in
    rw (p.1, p.2) (label_refused_1 room _ _ _ (word_refuses Place (key keywords.Colon) room _ _ _ c.in_err-left.ensures))

pub returns-in_err-name : goal.returns-in_err-name
returns-in_err-name c = λ room.
    let p = err_from_is_err_and c.from_residual-in_err-name.result c.from_residual-in_err-name.ensures.1 in
    rw (p.1, p.2) (label_refused_2 room _ _ _ (word_in_any Place (key keywords.Colon) room _ _ _ c.in_ok-left.ensures) _ _ (word_refuses Word (named signs.Identifier) room _ _ _ c.in_err-name.ensures))

pub returns-in_err-right : goal.returns-in_err-right
returns-in_err-right c = λ room.
    let p = err_from_is_err_and c.from_residual-in_err-right.result c.from_residual-in_err-right.ensures.1 in
    rw (p.1, p.2) (label_refused_3 room _ _ _ (word_in_any Place (key keywords.Colon) room _ _ _ c.in_ok-left.ensures) _ _ (word_in_any Word (named signs.Identifier) room _ _ _ c.in_ok-name.ensures) _ _ (word_refuses Place (key keywords.Colon) room _ _ _ c.in_err-right.ensures))

pub returns : goal.returns
returns c = λ room. label_found room _ _ _ (word_in_any Place (key keywords.Colon) room _ _ _ c.in_ok-left.ensures) _ _ (word_in_any Word (named signs.Identifier) room _ _ _ c.in_ok-name.ensures) _ _ (word_in_any Place (key keywords.Colon) room _ _ _ c.in_ok-right.ensures)
