use Rattle.std.proofs.lemmas.Result.{err_from_is_err_and}
use Rattle.mz_forms.proofs.Words.{word_in_any, word_refuses}
use Rattle.mz_base.specs.declared.place.Place.{Place}
use Rattle.mz_tree.specs.declared.word.Word.{Word}
use Rattle.mz_pterm.specs.declared.sign.Sign.TheVariants as signs
use Rattle.mz_pterm.specs.Words.{fixed, named}
use Rattle.mz_ppattern.proofs.PatternSequences.{attribute_pattern_refused_1, attribute_pattern_refused_2, attribute_pattern_refused_3, attribute_pattern_refused_4, attribute_pattern_found}
use Rattle.mz_ppattern.proofs.patterns.attribute_pattern.Goals as goal

pub returns-in_err-subject : goal.returns-in_err-subject
returns-in_err-subject c =
    let p = err_from_is_err_and c.from_residual.result c.from_residual.ensures.1 in
    rw (p.1, p.2) (attribute_pattern_refused_1 c.args.room _ _ _ (word_refuses Word (named signs.Identifier) c.args.room _ _ _ c.in_err-subject.ensures))

pub returns-in_err-is : goal.returns-in_err-is
returns-in_err-is c =
    let p = err_from_is_err_and c.from_residual-in_err-is.result c.from_residual-in_err-is.ensures.1 in
    rw (p.1, p.2) (attribute_pattern_refused_2 c.args.room _ _ _ (word_in_any Word (named signs.Identifier) c.args.room _ _ _ c.in_ok-subject.ensures) _ _ (word_refuses Place (fixed signs.Is) c.args.room _ _ _ c.in_err-is.ensures))

pub returns-in_err-loci : goal.returns-in_err-loci
returns-in_err-loci c =
    let p = err_from_is_err_and c.from_residual-in_err-loci.result c.from_residual-in_err-loci.ensures.1 in
    rw (p.1, p.2) (attribute_pattern_refused_3 c.args.room _ _ _ (word_in_any Word (named signs.Identifier) c.args.room _ _ _ c.in_ok-subject.ensures) _ _ (word_in_any Place (fixed signs.Is) c.args.room _ _ _ c.in_ok-is.ensures) _ _ c.in_err-loci.ensures)

pub returns-in_err-symbol : goal.returns-in_err-symbol
returns-in_err-symbol c =
    let p = err_from_is_err_and c.from_residual-in_err-symbol.result c.from_residual-in_err-symbol.ensures.1 in
    rw (p.1, p.2) (attribute_pattern_refused_4 c.args.room _ _ _ (word_in_any Word (named signs.Identifier) c.args.room _ _ _ c.in_ok-subject.ensures) _ _ (word_in_any Place (fixed signs.Is) c.args.room _ _ _ c.in_ok-is.ensures) _ _ c.in_ok-loci.ensures _ _ (word_refuses Word (named signs.Attribute) c.args.room _ _ _ c.in_err-symbol.ensures))

pub returns : goal.returns
returns c = attribute_pattern_found c.args.room _ _ _ (word_in_any Word (named signs.Identifier) c.args.room _ _ _ c.in_ok-subject.ensures) _ _ (word_in_any Place (fixed signs.Is) c.args.room _ _ _ c.in_ok-is.ensures) _ _ c.in_ok-loci.ensures _ _ (word_in_any Word (named signs.Attribute) c.args.room _ _ _ c.in_ok-symbol.ensures)
