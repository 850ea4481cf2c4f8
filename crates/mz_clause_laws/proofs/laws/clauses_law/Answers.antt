use Rattle.mz_clause_laws.proofs.ItemProofs.{clauses_law}
use Rattle.mz_clause_laws.proofs.laws.clauses_law.Goals as goal

pub returns : goal.returns
returns c = clauses_law
