use Rattle.mz_meanings.proofs.ResultLemmas.{told_written, told_unwritten}
use Rattle.mz_meanings.proofs.results.read_result.Goals as goal

pub returns-in-Some-clause-reads : goal.returns-in-Some-clause-reads
returns-in-Some-clause-reads c = told_written _ _ _ _ _ c.in-Some.t _ c.type_of.result c.in-Some.is c.type_of.ensures.reads

pub returns-in-None-clause-reads : goal.returns-in-None-clause-reads
returns-in-None-clause-reads c = told_unwritten _ _ _ _ _ c.set_type.result c.in-None.is c.set_type.ensures
