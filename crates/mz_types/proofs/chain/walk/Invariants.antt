use Rattle.std.proofs.Common.{List, [], length}
use Rattle.std.specs.Prelude.{reverse}
use Rattle.mz_core.specs.declared.radix.Radix.{Radix}
use Rattle.mz_types.specs.Chain.{Walks}
use Rattle.mz_types.proofs.ChainLemmas.{measure, parent_count}
use Rattle.mz_types.proofs.chain.walk.Given as goal

abbrev pub invariant-loop-r : goal.invariant-loop-r
invariant-loop-r l = (end : List Radix) → Walks l.clauses l.env l.ctx (reverse l.stack) l.out end → Walks l.clauses l.env l.ctx (reverse l.fn.first) [] end

abbrev pub decreases-loop-r : goal.decreases-loop-r
decreases-loop-r l = measure (parent_count l.env) (length l.out) (length l.stack)
