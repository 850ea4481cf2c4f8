use Rattle.mz_congruence.specs.Classes.{Progress}
use Rattle.mz_congruence.specs.Closing.{State, Entries, ListedBelow}
use Rattle.mz_congruence.proofs.settle.merge_congruent.Given as goal

abbrev pub invariant-loop-i : goal.invariant-loop-i
invariant-loop-i l = record {
  state : State l.graph l.c;
  progress : Progress l.merged l.fn.c l.c;
  entries : Entries l.graph l.table;
  listed : ListedBelow l.merged l.graph l.c l.table l.i;
}
