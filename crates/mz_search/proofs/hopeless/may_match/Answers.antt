use Rattle.std.proofs.Common.{refl, true}
use Rattle.mz_search.proofs.HopelessLemmas.{told_may, told_may_matched}
use Rattle.mz_search.proofs.hopeless.may_match.Goals as goal

pub returns-then-not-is_quick : goal.returns-then-not-is_quick
returns-then-not-is_quick c = told_may _ _ _ _ _ _ true refl

pub returns : goal.returns
returns c = told_may_matched _ _ _ _ _ _ c.in_ok-found.found c.is_empty.result c.requires c.in_ok-found.ensures c.is_empty.ensures.0
