use Rattle.mz_classes.proofs.CloseLemmas.{told_closed, ground_numbered}
use Rattle.mz_classes.proofs.close_classes.close_classes.Goals as goal

pub numbering_of-requires : goal.numbering_of-requires
numbering_of-requires c = ground_numbered _ _ _ _ c.requires c.in_ok-table.ensures.kept

pub returns-clause-facts : goal.returns-clause-facts
returns-clause-facts c = told_closed _ _ _ _ _ _ _ c.requires c.in_ok-graph.ensures c.in_ok-table.ensures.facts c.indexed.ensures
