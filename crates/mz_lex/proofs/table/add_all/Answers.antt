use Rattle.mz_lex.proofs.TableLemmas.{adds_none, adds_more, name_refused}
use Rattle.mz_lex.proofs.table.add_all.Goals as goal

pub loop-name-init : goal.loop-name-init
loop-name-init c = adds_none _ _ c.new-known.ensures

pub loop-name-preserved : goal.loop-name-preserved
loop-name-preserved c = adds_more _ _ _ _ _ _ c.loop-name-test.true c.name-item.is c.loop-name.invariant c.in-Ok.ensures.adds

pub returns-in-Err-clause-refused : goal.returns-in-Err-clause-refused
returns-in-Err-clause-refused c = name_refused _ _ _ _ _ _ c.loop-name-test.true c.name-item.is c.loop-name.invariant c.in-Err.ensures.refused
