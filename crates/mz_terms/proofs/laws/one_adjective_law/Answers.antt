use Rattle.mz_terms.proofs.OneType.{one_own, one_adjectives}
use Rattle.mz_terms.proofs.laws.one_adjective_law.Goals as goal

pub returns-clause-own : goal.returns-clause-own
returns-clause-own c = one_own

pub returns-clause-adjectives : goal.returns-clause-adjectives
returns-clause-adjectives c = λ e d least w t xs before o p h k. one_adjectives e d least w t xs before o h p k
