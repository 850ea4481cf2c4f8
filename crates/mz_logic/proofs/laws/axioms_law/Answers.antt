use Rattle.mz_logic.proofs.AxiomLaws.{from_other_axioms}
use Rattle.mz_logic.proofs.laws.axioms_law.Goals as goal

pub returns : goal.returns
returns c = from_other_axioms
