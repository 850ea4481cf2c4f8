use Rattle.mz_congruence.proofs.DecideLemmas.{told_no_left, told_no_right}
use Rattle.mz_congruence.proofs.fact_table.FactTableFactSet.same.Goals as goal

pub returns-in-None-term_place : goal.returns-in-None-term_place
returns-in-None-term_place c = told_no_right c.args.self.now c.args.t.now c.args.u.now c.in-None-term_place.ensures

pub returns-in-None : goal.returns-in-None
returns-in-None c = told_no_left c.args.self.now c.args.t.now c.args.u.now c.in-None.ensures
