use Rattle.std.proofs.Common.{◌≤◌, length, drop}
use Rattle.mz_lex.specs.SymbolTable.{FindsFirst}
use Rattle.mz_lex.proofs.symbol_table.positions_of.Given as goal

abbrev pub invariant-loop-position : goal.invariant-loop-position
invariant-loop-position l = record {
  within : l.position ≤ length l.lexemes;
  first : FindsFirst l.lexemes l.positions (drop l.position l.lexemes);
}

abbrev pub decreases-loop-position : goal.decreases-loop-position
decreases-loop-position l = l.position
