use Rattle.mz_clause_laws.proofs.ItemProofs.{item_law}
use Rattle.mz_clause_laws.proofs.laws.item_law.Goals as goal

pub returns : goal.returns
returns c = item_law
