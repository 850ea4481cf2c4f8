use Rattle.mz_logic.proofs.SetLaws.{deduction, deduction_back, conjunction_in, conjunction_left, conjunction_right, parts_in, parts_out, negation_in, negation_out, by_contradiction}
use Rattle.mz_logic.proofs.set_laws.connective_law.Goals as goal

pub returns-clause-deduction : goal.returns-clause-deduction
returns-clause-deduction g c = λ f k. (deduction g.A.FormulaProperty.holds g.P.FormulaProperty.holds f k, deduction_back g.A.FormulaProperty.holds g.P.FormulaProperty.holds f k)

pub returns-clause-conjunction : goal.returns-clause-conjunction
returns-clause-conjunction g c = (conjunction_in g.A.FormulaProperty.holds g.P.FormulaProperty.holds, conjunction_left g.A.FormulaProperty.holds g.P.FormulaProperty.holds, conjunction_right g.A.FormulaProperty.holds g.P.FormulaProperty.holds, parts_in g.A.FormulaProperty.holds g.P.FormulaProperty.holds, parts_out g.A.FormulaProperty.holds g.P.FormulaProperty.holds)

pub returns-clause-negation : goal.returns-clause-negation
returns-clause-negation g c = (negation_in g.A.FormulaProperty.holds g.P.FormulaProperty.holds, negation_out g.A.FormulaProperty.holds g.P.FormulaProperty.holds, by_contradiction g.A.FormulaProperty.holds g.P.FormulaProperty.holds)
