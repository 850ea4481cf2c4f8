use Rattle.mz_lex.proofs.TableLemmas.{names_more}
use Rattle.mz_lex.proofs.table.vocabulary_names.Goals as goal

pub loop-directive-preserved : goal.loop-directive-preserved
loop-directive-preserved c = names_more _ _ _ _ _ _ c.loop-directive-test.true c.directive-item.is c.loop-directive.invariant c.names_under.ensures c.in_ok-extend_from_slice.ensures.items
