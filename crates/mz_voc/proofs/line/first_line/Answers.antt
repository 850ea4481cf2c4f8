use Rattle.mz_voc.proofs.LineLemmas.{first_line_ended, last_line}
use Rattle.mz_voc.proofs.line.first_line.Goals as goal

pub returns-in-Some-clause-lines : goal.returns-in-Some-clause-lines
returns-in-Some-clause-lines c = first_line_ended _ _ c.requires c.in-Some.ensures

pub returns-in-None-clause-lines : goal.returns-in-None-clause-lines
returns-in-None-clause-lines c = last_line _ c.requires c.in-None.ensures
