use Rattle.std.proofs.Common.{arith, ◌∙◌}
use Rattle.mz_congruence.proofs.ClosingLemmas.{start_state}
use Rattle.mz_facts.proofs.CloseLemmas.{told_facts}
use Rattle.mz_facts.proofs.close.close.Goals as goal

pub settle-requires-clause-state : goal.settle-requires-clause-state
settle-requires-clause-state c =
    rw c.as_mut_slice.ensures.value (start_state _ _ (c.in_ok-classes.ensures.0 ∙ c.len.ensures) (λ i lt. c.in_ok-classes.ensures.1 i (omega (arith, lt, c.len.ensures))))

pub returns-clause-facts : goal.returns-clause-facts
returns-clause-facts c = told_facts _ _ _ _ _ c.requires c.in_ok-graph.ensures c.in_ok-table.ensures.facts
