use Rattle.mz_clause_laws.proofs.ItemProofs.{letter_law}
use Rattle.mz_clause_laws.proofs.laws.letter_law.Goals as goal

pub returns : goal.returns
returns c = letter_law
