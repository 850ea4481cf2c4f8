use Rattle.mz_tree.proofs.Views.{quantified_of-for_such, quantified_of-for_such_further}
use Rattle.mz_pformula.proofs.formulas.with_condition.Goals as goal

pub returns-in-Holds : goal.returns-in-Holds
returns-in-Holds c = rw c.in-Holds.is (quantified_of-for_such _ _ _ _ _ _)

pub returns-in-Further : goal.returns-in-Further
returns-in-Further c = rw c.in-Further.is (quantified_of-for_such_further _ _ _ _ _)
