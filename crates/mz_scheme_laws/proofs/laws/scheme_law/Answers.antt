use Rattle.mz_scheme_laws.proofs.KindProofs.{schemes_grows, schemes_keeps, schemes_one}
use Rattle.mz_scheme_laws.proofs.laws.scheme_law.Goals as goal

pub returns-clause-grows : goal.returns-clause-grows
returns-clause-grows c = schemes_grows

pub returns-clause-keeps : goal.returns-clause-keeps
returns-clause-keeps c = schemes_keeps

pub returns-clause-one : goal.returns-clause-one
returns-clause-one c = schemes_one
