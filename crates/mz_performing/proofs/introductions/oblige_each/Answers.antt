use Rattle.mz_performing.proofs.EachLemmas.{told_all_obliged}
use Rattle.mz_performing.proofs.introductions.oblige_each.Goals as goal

pub returns : goal.returns
returns c = told_all_obliged _ _ _ _ _ _ _ _ _ c.in_default.ensures.cases c.loop-s.invariant
