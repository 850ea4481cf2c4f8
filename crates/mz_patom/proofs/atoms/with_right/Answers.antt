use Rattle.mz_tree.proofs.Views.{unit_of-predicate_left, unit_of-predicate_both}
use Rattle.mz_patom.proofs.atoms.with_right.Goals as goal

pub returns-in-None : goal.returns-in-None
returns-in-None c = rw c.in-None.is (unit_of-predicate_left _ _)

pub returns-in-Some : goal.returns-in-Some
returns-in-Some c = rw c.in-Some.is (unit_of-predicate_both _ _ _)
