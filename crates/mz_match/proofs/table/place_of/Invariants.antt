use Rattle.mz_match.specs.Table.{NoneBefore}
use Rattle.mz_match.proofs.table.place_of.Given as goal

abbrev pub invariant-loop-i : goal.invariant-loop-i
invariant-loop-i l = NoneBefore l.head l.groups l.i
