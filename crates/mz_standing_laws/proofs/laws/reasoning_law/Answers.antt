use Rattle.mz_standing_laws.proofs.GroundProofs.{decided_law, grounded_law}
use Rattle.mz_standing_laws.proofs.laws.reasoning_law.Goals as goal

pub returns-clause-decided : goal.returns-clause-decided
returns-clause-decided c = decided_law

pub returns-clause-grounded : goal.returns-clause-grounded
returns-clause-grounded c = grounded_law
