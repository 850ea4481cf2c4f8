use Rattle.mz_nf.specs.Constants.{has}
use Rattle.mz_nf.proofs.SplitLemmas.{told_problem}
use Rattle.mz_nf.proofs.split.split_problem.Goals as goal

pub returns : goal.returns
returns c =
    told_problem c.args.p.now (has c.in_ok-used.used) _ _ _ _ _ c.in_ok-used.ensures c.in_ok-premises.ensures c.in_ok-conclusion.ensures c.in_ok-disjuncts.ensures
