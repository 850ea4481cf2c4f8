use Rattle.mz_lex.proofs.LongestLemmas.{none_at}
use Rattle.mz_lex.proofs.symbol_table.SymbolTable.longest.Goals as goal

pub loop-length-preserved : goal.loop-length-preserved
loop-length-preserved c = none_at _ _ _ c.loop-length.invariant c.loop-length-test.true c.in_default.ensures
