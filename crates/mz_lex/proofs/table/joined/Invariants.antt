use Rattle.std.proofs.Common.{◌≡◌, take}
use Rattle.mz_lex.specs.Table.{joined}
use Rattle.mz_lex.proofs.table.joined.Given as goal

abbrev pub invariant-loop-entry : goal.invariant-loop-entry
invariant-loop-entry l = l.all ≡ joined l.fn.known (take l.entry-index l.entries)
