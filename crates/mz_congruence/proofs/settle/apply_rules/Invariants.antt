use Rattle.mz_congruence.specs.Classes.{Progress}
use Rattle.mz_congruence.specs.Closing.{State, MetBelow}
use Rattle.mz_congruence.proofs.settle.apply_rules.Given as goal

abbrev pub invariant-loop-k : goal.invariant-loop-k
invariant-loop-k l = record {
  state : State l.graph l.c;
  progress : Progress l.merged l.fn.c l.c;
  met : MetBelow l.merged l.graph l.c l.k;
}
