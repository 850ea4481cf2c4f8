use Rattle.mz_clause_laws.proofs.RowProofs.{functor_type_law}
use Rattle.mz_clause_laws.proofs.laws.functor_type_law.Goals as goal

pub returns : goal.returns
returns c = functor_type_law
