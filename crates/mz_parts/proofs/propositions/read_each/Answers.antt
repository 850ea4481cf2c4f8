use Rattle.mz_parts.proofs.PropositionLemmas.{told_each_stop, told_each_turn, told_kept}
use Rattle.mz_parts.proofs.propositions.read_each.Goals as goal

pub loop-p-preserved : goal.loop-p-preserved
loop-p-preserved c = (
  told_each_turn _ _ _ _ _ _ _ _ _ _ _ _ _ _ _ _ c.in-Some.ensures.cases.0 c.read_one.ensures.reads c.in-Ok.is c.loop-p.invariant.1 c.loop-p.invariant.0,
  told_kept _ _ _ c.loop-p.invariant.1 c.read_one.ensures.same,
)

pub returns-in-Err-clause-reads : goal.returns-in-Err-clause-reads
returns-in-Err-clause-reads c = told_each_stop _ _ _ _ _ _ _ _ _ _ _ _ _ _ _ _ _ c.in-Some.ensures.cases.0 c.read_one.ensures.reads c.in-Err.is c.loop-p.invariant.1 c.loop-p.invariant.0
