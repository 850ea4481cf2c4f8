use Rattle.std.proofs.lemmas.List.Filters.{dedup_is}
use Rattle.mz_context.proofs.OccurringLemmas.{rises-dedup, among-dedup}
use Rattle.mz_context.proofs.occurring.in_order.Goals as goal

pub returns-clause-rises : goal.returns-clause-rises
returns-clause-rises c = rw (dedup_is _ _ _ c.dedup.ensures.filtered) (rises-dedup _ c.sort_unstable.ensures.sorted)

pub returns-clause-same : goal.returns-clause-same
returns-clause-same c = λ q. rw (dedup_is _ _ _ c.dedup.ensures.filtered) (among-dedup _ _ q c.sort_unstable.ensures.permutation)
