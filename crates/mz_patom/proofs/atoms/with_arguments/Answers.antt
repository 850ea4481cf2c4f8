use Rattle.mz_tree.proofs.Views.{unit_of-private, unit_of-private_with}
use Rattle.mz_patom.proofs.atoms.with_arguments.Goals as goal

pub returns-in-None : goal.returns-in-None
returns-in-None c = rw c.in-None.is (unit_of-private _ _ _)

pub returns-in-Some : goal.returns-in-Some
returns-in-Some c = rw c.in-Some.is (unit_of-private_with _ _ _ _)
