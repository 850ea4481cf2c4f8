use Rattle.mz_tree.proofs.Views.{unit_of-predicate, unit_of-predicate_right}
use Rattle.mz_patom.proofs.atoms.with_terms.Goals as goal

pub returns-in-None : goal.returns-in-None
returns-in-None c = rw c.in-None.is (unit_of-predicate _)

pub returns-in-Some : goal.returns-in-Some
returns-in-Some c = rw c.in-Some.is (unit_of-predicate_right _ _)
