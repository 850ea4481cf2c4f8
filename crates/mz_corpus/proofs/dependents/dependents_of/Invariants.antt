use Rattle.std.proofs.Common.{take}
use Rattle.mz_corpus.specs.Dependents.{AreDependents, rows_at}
use Rattle.mz_corpus.proofs.dependents.dependents_of.Given as goal

abbrev pub invariant-loop-row : goal.invariant-loop-row
invariant-loop-row l = AreDependents (take l.row l.articles) (rows_at l.dependents.rows)
