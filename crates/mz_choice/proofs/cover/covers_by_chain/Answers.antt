use Rattle.std.proofs.Common.{◌∙◌}
use Rattle.mz_choice.proofs.CoverLemmas.{told_by_chain}
use Rattle.mz_choice.proofs.cover.covers_by_chain.Goals as goal

pub returns-clause-covers : goal.returns-clause-covers
returns-clause-covers c = told_by_chain _ _ _ _ _ _ _ _ _ c.in_ok-ms.ensures.chain c.registered_chain.ensures.same (c.as_slice.ensures.value ∙ c.ms.view_is) c.in_ok-covered.ensures.covers
