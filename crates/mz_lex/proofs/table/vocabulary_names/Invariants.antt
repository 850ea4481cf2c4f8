use Rattle.std.proofs.Common.{◌≡◌, take}
use Rattle.mz_lex.specs.Table.{vocabulary_names}
use Rattle.mz_lex.proofs.table.vocabulary_names.Given as goal

abbrev pub invariant-loop-directive : goal.invariant-loop-directive
invariant-loop-directive l = l.names.items ≡ vocabulary_names (take l.directive-index l.directives)
