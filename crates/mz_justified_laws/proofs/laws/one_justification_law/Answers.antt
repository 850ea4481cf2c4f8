use Rattle.mz_justified_laws.proofs.OneJustification.{one_ground, one_owed, one_justification}
use Rattle.mz_justified_laws.proofs.laws.one_justification_law.Goals as goal

pub returns-clause-ground : goal.returns-clause-ground
returns-clause-ground c = one_ground

pub returns-clause-owed : goal.returns-clause-owed
returns-clause-owed c = one_owed

pub returns-clause-justification : goal.returns-clause-justification
returns-clause-justification c = one_justification
