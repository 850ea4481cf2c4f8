use Rattle.std.proofs.Common.{◌∙◌}
use Rattle.mz_places.proofs.PlaceLemmas.{told_each_stop, told_each_turn}
use Rattle.mz_places.proofs.places.read_each.Goals as goal

pub loop-next-preserved : goal.loop-next-preserved
loop-next-preserved c = (
  told_each_turn _ _ _ _ _ _ _ _ _ _ _ _ _ _ _ _ c.in-Some.ensures.cases.0 c.loop-next.invariant.1 c.read_one.ensures.reads c.in-Ok.is c.loop-next.invariant.0,
  c.read_one.ensures.same ∙ c.loop-next.invariant.1,
)

pub returns-in-Err-clause-reads : goal.returns-in-Err-clause-reads
returns-in-Err-clause-reads c = told_each_stop _ _ _ _ _ _ _ _ _ _ _ _ _ _ _ _ _ c.in-Some.ensures.cases.0 c.loop-next.invariant.1 c.read_one.ensures.reads c.in-Err.is c.loop-next.invariant.0
