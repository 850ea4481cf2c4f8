use Rattle.std.proofs.Common.{[], take}
use Rattle.mz_lex.specs.Table.{AddsAll}
use Rattle.mz_lex.proofs.table.add_all.Given as goal

abbrev pub invariant-loop-name : goal.invariant-loop-name
invariant-loop-name l = AddsAll l.vocabularies [] (take l.name-index l.names) l.known
