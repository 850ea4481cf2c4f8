use Rattle.mz_terms.proofs.OneTerm.{one_term, one_list}
use Rattle.mz_terms.proofs.laws.one_term_law.Goals as goal

pub returns-clause-term : goal.returns-clause-term
returns-clause-term c = λ e d least t o p h k. one_term e d least t o h p k

pub returns-clause-list : goal.returns-clause-list
returns-clause-list c = λ e d least t o p h k. one_list e d least t o h p k
