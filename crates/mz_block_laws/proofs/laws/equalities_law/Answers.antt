use Rattle.mz_block_laws.proofs.EqualityProofs.{equalities_law, disjunction_stands_law}
use Rattle.mz_block_laws.proofs.laws.equalities_law.Goals as goal

pub returns-clause-equal : goal.returns-clause-equal
returns-clause-equal c = equalities_law

pub returns-clause-disjunction : goal.returns-clause-disjunction
returns-clause-disjunction c = disjunction_stands_law
