use Rattle.mz_logic.proofs.SetLaws.{universal_at, universals_at, generalization, existential_out, equal_self, equal_exchanged, instance_in_set, fresh_constant}
use Rattle.mz_logic.proofs.set_laws.quantifier_law.Goals as goal

pub returns-clause-universal : goal.returns-clause-universal
returns-clause-universal g c = (universal_at g.A.FormulaProperty.holds g.P.FormulaProperty.holds, universals_at g.A.FormulaProperty.holds g.P.FormulaProperty.holds)

pub returns-clause-generalization : goal.returns-clause-generalization
returns-clause-generalization g c = generalization g.A.FormulaProperty.holds g.P.FormulaProperty.holds

pub returns-clause-existential : goal.returns-clause-existential
returns-clause-existential g c = existential_out g.A.FormulaProperty.holds g.P.FormulaProperty.holds

pub returns-clause-equation : goal.returns-clause-equation
returns-clause-equation g c = (equal_self g.A.FormulaProperty.holds g.P.FormulaProperty.holds, equal_exchanged g.A.FormulaProperty.holds g.P.FormulaProperty.holds)

pub returns-clause-letter : goal.returns-clause-letter
returns-clause-letter g c = instance_in_set g.A.FormulaProperty.holds g.P.FormulaProperty.holds

pub returns-clause-constant : goal.returns-clause-constant
returns-clause-constant g c = fresh_constant g.A.FormulaProperty.holds g.P.FormulaProperty.holds
