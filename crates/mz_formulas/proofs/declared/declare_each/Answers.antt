use Rattle.mz_choice.proofs.CoverLemmas.{grown_more}
use Rattle.mz_formulas.proofs.DeclaredLemmas.{told_declared_stop, told_declared_turn}
use Rattle.mz_formulas.proofs.declared.declare_each.Goals as goal

pub returns-in-Some-2-clause-declares : goal.returns-in-Some-2-clause-declares
returns-in-Some-2-clause-declares c =
    told_declared_stop _ _ _ _ _ _ _ _ _ _ _ c.in-Some.ensures.cases.0 c.in_ok-r.ensures.declares c.in-Some-2.is c.loop-next.invariant.0

pub loop-next-preserved : goal.loop-next-preserved
loop-next-preserved c = (
  told_declared_turn _ _ _ _ _ _ _ _ _ _ c.in-Some.ensures.cases.0 c.in_ok-r.ensures.declares c.in-None.is c.loop-next.invariant.0,
  grown_more _ _ _ c.loop-next.invariant.1 c.declare.ensures.grown,
)
