use Rattle.std.proofs.lemmas.Result.{err_from_is_err_and}
use Rattle.mz_forms.proofs.Words.{word_in_any, word_refuses}
use Rattle.mz_tree.specs.declared.word.Word.{Word}
use Rattle.mz_pterm.specs.declared.sign.Sign.TheVariants as signs
use Rattle.mz_pterm.specs.Words.{named}
use Rattle.mz_ppattern.proofs.PatternSequences.{mode_pattern_refused_1, mode_pattern_refused_2, mode_pattern_found}
use Rattle.mz_ppattern.proofs.patterns.mode_pattern.Goals as goal

pub returns-in_err-symbol : goal.returns-in_err-symbol
returns-in_err-symbol c =
    let p = err_from_is_err_and c.from_residual.result c.from_residual.ensures.1 in
    rw (p.1, p.2) (mode_pattern_refused_1 c.args.room _ _ _ (word_refuses Word (named signs.Mode) c.args.room _ _ _ c.in_err-symbol.ensures))

pub returns-in_err-loci : goal.returns-in_err-loci
returns-in_err-loci c =
    let p = err_from_is_err_and c.from_residual-in_err-loci.result c.from_residual-in_err-loci.ensures.1 in
    rw (p.1, p.2) (mode_pattern_refused_2 c.args.room _ _ _ (word_in_any Word (named signs.Mode) c.args.room _ _ _ c.in_ok-symbol.ensures) _ _ c.in_err-loci.ensures)

pub returns : goal.returns
returns c = mode_pattern_found c.args.room _ _ _ (word_in_any Word (named signs.Mode) c.args.room _ _ _ c.in_ok-symbol.ensures) _ _ c.in_ok-loci.ensures
