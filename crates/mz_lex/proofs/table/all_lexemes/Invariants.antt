use Rattle.std.proofs.Common.{◌≡◌, ◌++◌, take}
use Rattle.std.specs.Prelude.{map}
use Rattle.mz_lex.specs.BuiltIn.{built_in_lexemes}
use Rattle.mz_lex.specs.Table.{symbol_lexeme}
use Rattle.mz_lex.proofs.table.all_lexemes.Given as goal

abbrev pub invariant-loop-symbol : goal.invariant-loop-symbol
invariant-loop-symbol l = l.lexemes.items ≡ built_in_lexemes ++ map symbol_lexeme (take l.symbol-index l.symbols)
