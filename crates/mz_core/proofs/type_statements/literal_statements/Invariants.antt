use Rattle.std.proofs.Common.{◌≡◌, map, take}
use Rattle.mz_core.specs.TypeStatements.{literal_statement}
use Rattle.mz_core.proofs.type_statements.literal_statements.Given as goal

abbrev pub invariant-loop-l : goal.invariant-loop-l
invariant-loop-l l = l.out.items ≡ map literal_statement (take l.l-index l.l-items)
