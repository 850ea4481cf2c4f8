use Rattle.std.proofs.Common.{arith, subst, sym}
use Rattle.std.specs.Prelude.{Contains}
use Rattle.mz_corpus.proofs.DependentsLemmas.{rows_more, rows_within}
use Rattle.mz_corpus.proofs.dependents.Rows.up_to.Goals as goal

pub loop-row-preserved : goal.loop-row-preserved
loop-row-preserved c = (
  (λ r lt. subst (λ xs. Contains xs r) (sym c.in_ok-push.ensures.items) (rows_more c.loop-row.items.items c.loop-row.row c.loop-row.invariant.0 r lt)),
  λ r held. rows_within c.loop-row.items.items c.loop-row.row c.loop-row.invariant.1 r (subst (λ xs. Contains xs r) c.in_ok-push.ensures.items held),
)

pub returns-clause-all : goal.returns-clause-all
returns-clause-all c = λ r lt. c.loop-row.invariant.0 r (omega arith)

pub returns-clause-within : goal.returns-clause-within
returns-clause-within c = λ r held. let lt = c.loop-row.invariant.1 r held in omega arith
