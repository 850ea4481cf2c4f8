use Rattle.mz_pterm.proofs.Unique.{one_term, one_terms}
use Rattle.mz_pterm.proofs.parse.one_tree.Goals as goal

pub returns-clause-term : goal.returns-clause-term
returns-clause-term c = one_term

pub returns-clause-terms : goal.returns-clause-terms
returns-clause-terms c = one_terms
