use Rattle.mz_parts.proofs.TermLemmas.{told_names_end}
use Rattle.mz_parts.proofs.retyped.retype_each.Goals as goal

pub returns : goal.returns
returns c = told_names_end _ _ _ _ _ c.in_default.ensures.cases c.loop-t.invariant
