use Rattle.mz_fields.proofs.ValueLemmas.{told_nowhere}
use Rattle.mz_fields.proofs.values.place_of.Goals as goal

pub returns : goal.returns
returns c = told_nowhere _ _ _ _ c.in_default.ensures.cases c.loop-t.invariant.0
