use Rattle.std.proofs.Common.{◌∙◌}
use Rattle.mz_parts.proofs.NameLemmas.{told_defined}
use Rattle.mz_parts.proofs.named.define.Goals as goal

pub returns : goal.returns
returns c = told_defined _ _ _ _ _ _ _ _ c.in_ok-rs.ensures (c.as_slice.ensures.value ∙ c.rs.view_is) c.in_ok-ty.ensures c.in_ok-d.ensures
