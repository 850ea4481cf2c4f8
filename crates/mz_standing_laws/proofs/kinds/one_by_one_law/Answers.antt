use Rattle.mz_standing_laws.proofs.KindProofs.{grows_all_law, keeps_all_law}
use Rattle.mz_standing_laws.proofs.kinds.one_by_one_law.Goals as goal

pub returns-clause-grows : goal.returns-clause-grows
returns-clause-grows g c = grows_all_law g.K.Kind.takes

pub returns-clause-keeps : goal.returns-clause-keeps
returns-clause-keeps g c = keeps_all_law g.K.Kind.takes
