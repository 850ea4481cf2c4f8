use Rattle.mz_choice.proofs.CoverLemmas.{grown_more}
use Rattle.mz_parts.proofs.DeclarationLemmas.{told_each_stop, told_each_turn}
use Rattle.mz_parts.proofs.declarations.declare_each.Goals as goal

pub loop-next-preserved : goal.loop-next-preserved
loop-next-preserved c = (
  told_each_turn _ _ _ _ _ _ _ _ _ _ _ _ _ _ c.in-Some.ensures.cases.0 c.declare_more.ensures.declares c.in-Ok.is c.loop-next.invariant.0,
  grown_more _ _ _ c.loop-next.invariant.1 c.declare_more.ensures.grown,
)

pub returns-in-Err-clause-declares : goal.returns-in-Err-clause-declares
returns-in-Err-clause-declares c = told_each_stop _ _ _ _ _ _ _ _ _ _ _ _ _ _ _ c.in-Some.ensures.cases.0 c.declare_more.ensures.declares c.in-Err.is c.loop-next.invariant.0
