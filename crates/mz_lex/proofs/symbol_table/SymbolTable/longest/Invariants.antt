use Rattle.mz_lex.proofs.LongestLemmas.{NoneAbove}
use Rattle.mz_lex.proofs.symbol_table.SymbolTable.longest.Given as goal

abbrev pub invariant-loop-length : goal.invariant-loop-length
invariant-loop-length l = NoneAbove l.self l.text l.length

abbrev pub decreases-loop-length : goal.decreases-loop-length
decreases-loop-length l = l.length
