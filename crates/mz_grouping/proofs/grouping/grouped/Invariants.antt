use Rattle.mz_grouping.specs.Open.{ReadySo}
use Rattle.mz_grouping.proofs.grouping.grouped.Given as goal

abbrev pub invariant-loop-k : goal.invariant-loop-k
invariant-loop-k l = ReadySo l.parts l.k l.waiting l.steps.items
