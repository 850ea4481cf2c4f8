use Rattle.mz_tree.proofs.Views.{declared_of-plain, declared_of-typed}
use Rattle.mz_ptype.proofs.declarations.with_type.Goals as goal

pub returns-in-None : goal.returns-in-None
returns-in-None c = rw c.in-None.is (declared_of-plain _)

pub returns-in-Some : goal.returns-in-Some
returns-in-Some c = rw c.in-Some.is (declared_of-typed _ _ _)
