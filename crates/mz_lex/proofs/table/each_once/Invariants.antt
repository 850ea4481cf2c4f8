use Rattle.std.proofs.Common.{◌≡◌, take}
use Rattle.mz_lex.specs.Table.{each_once}
use Rattle.mz_lex.proofs.TableLemmas.{Knows}
use Rattle.mz_lex.proofs.table.each_once.Given as goal

abbrev pub invariant-loop-name : goal.invariant-loop-name
invariant-loop-name l = record {
  seen : Knows l.seen (take l.name-index l.names);
  found : l.found.items ≡ each_once (take l.name-index l.names);
}
