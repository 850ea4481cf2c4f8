use Rattle.std.proofs.Common.{take}
use Rattle.mz_lex.specs.SymbolTable.{NoneLonger}
use Rattle.mz_lex.proofs.symbol_table.most_bytes.Given as goal

abbrev pub invariant-loop-lexeme : goal.invariant-loop-lexeme
invariant-loop-lexeme l = NoneLonger (take l.lexeme-index l.lexemes) l.most
