use Rattle.mz_terms.proofs.OneType.{one_type, one_registered}
use Rattle.mz_terms.proofs.laws.one_type_law.Goals as goal

pub returns-clause-covered : goal.returns-clause-covered
returns-clause-covered c = one_type

pub returns-clause-registered : goal.returns-clause-registered
returns-clause-registered c = one_registered
