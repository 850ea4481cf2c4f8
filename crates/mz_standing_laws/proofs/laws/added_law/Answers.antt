use Rattle.mz_standing_laws.proofs.AddedProofs.{used_law, added_law}
use Rattle.mz_standing_laws.proofs.laws.added_law.Goals as goal

pub returns-clause-used : goal.returns-clause-used
returns-clause-used c = used_law

pub returns-clause-added : goal.returns-clause-added
returns-clause-added c = added_law
