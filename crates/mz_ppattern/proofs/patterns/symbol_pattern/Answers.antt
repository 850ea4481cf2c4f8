use Rattle.std.proofs.lemmas.Result.{err_from_is_err_and}
use Rattle.mz_forms.proofs.Words.{word_in_any, word_refuses}
use Rattle.std.proofs.Common.{ℕ}
use Rattle.mz_tree.specs.declared.word.Word.{Word}
use Rattle.mz_ppattern.specs.Forms.{functor_token}
use Rattle.mz_ppattern.proofs.PatternSequences.{symbol_pattern_refused_1, symbol_pattern_refused_2, symbol_pattern_refused_3, symbol_pattern_found}
use Rattle.mz_ppattern.proofs.patterns.symbol_pattern.Goals as goal

pub returns-in_err-left : goal.returns-in_err-left
returns-in_err-left c =
    let p = err_from_is_err_and c.from_residual.result c.from_residual.ensures.1 in
    rw (p.1, p.2) (symbol_pattern_refused_1 c.args.room _ _ _ c.in_err-left.ensures)

pub returns-in_err-symbol : goal.returns-in_err-symbol
returns-in_err-symbol c =
    let p = err_from_is_err_and c.from_residual-in_err-symbol.result c.from_residual-in_err-symbol.ensures.1 in
    rw (p.1, p.2) (symbol_pattern_refused_2 c.args.room _ _ _ c.in_ok-left.ensures _ _ (word_refuses (Word × ℕ) functor_token c.args.room _ _ _ c.in_err-symbol.ensures))

pub returns-in_err-right : goal.returns-in_err-right
returns-in_err-right c =
    let p = err_from_is_err_and c.from_residual-in_err-right.result c.from_residual-in_err-right.ensures.1 in
    rw (p.1, p.2) (symbol_pattern_refused_3 c.args.room _ _ _ c.in_ok-left.ensures _ _ (word_in_any (Word × ℕ) functor_token c.args.room _ _ _ c.in_ok-symbol.ensures) _ _ c.in_err-right.ensures)

pub returns : goal.returns
returns c = symbol_pattern_found c.args.room _ _ _ c.in_ok-left.ensures _ _ (word_in_any (Word × ℕ) functor_token c.args.room _ _ _ c.in_ok-symbol.ensures) _ _ c.in_ok-right.ensures
