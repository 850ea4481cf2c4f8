use Rattle.mz_conditions.proofs.ConditionLemmas.{told_judged}
use Rattle.mz_conditions.proofs.conditions.take_condition.Goals as goal

pub returns-clause-takes : goal.returns-clause-takes
returns-clause-takes g c =
    told_judged _ _ _ _ _ _ _ _ _ _ _ _ _ _ _ _ _ _ c.in_ok-cs.ensures c.is_empty.ensures c.if-is_empty.false c.in_ok-sentence.ensures c.in_ok-mark.ensures c.justify.ensures.justifies c.of_walk.ensures
