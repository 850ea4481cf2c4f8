use Rattle.mz_logic.proofs.SetLaws.{premise_derives, axiom_in_set, cut_set, other_axioms}
use Rattle.mz_logic.proofs.set_laws.set_law.Goals as goal

pub returns-clause-member : goal.returns-clause-member
returns-clause-member g c = (premise_derives g.A.FormulaProperty.holds g.P.FormulaProperty.holds, axiom_in_set g.A.FormulaProperty.holds g.P.FormulaProperty.holds)

pub returns-clause-cut : goal.returns-clause-cut
returns-clause-cut g c = cut_set g.A.FormulaProperty.holds g.P.FormulaProperty.holds g.Q.FormulaProperty.holds

pub returns-clause-axioms : goal.returns-clause-axioms
returns-clause-axioms g c = other_axioms g.A.FormulaProperty.holds g.B.FormulaProperty.holds g.P.FormulaProperty.holds
