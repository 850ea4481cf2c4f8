use Rattle.mz_terms.proofs.BaseLemmas.{told_applies}
use Rattle.mz_terms.proofs.bases.apply.Goals as goal

pub returns : goal.returns
returns c = told_applies _ _ _ _ _ _ _ c.in_ok-t.ensures c.in_ok-o.ensures
