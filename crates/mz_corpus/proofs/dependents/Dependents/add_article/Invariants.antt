use Rattle.std.proofs.Common.{take}
use Rattle.mz_corpus.specs.Dependents.{HasAdded, rows_at}
use Rattle.mz_corpus.proofs.dependents.Dependents.add_article.Given as goal

abbrev pub invariant-loop-name : goal.invariant-loop-name
invariant-loop-name l = HasAdded (rows_at l.initial.self.rows) (rows_at l.self.rows) (take l.name-index l.name-items) l.row
