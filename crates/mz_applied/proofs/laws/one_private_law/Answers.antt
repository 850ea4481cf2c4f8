use Rattle.mz_applied.proofs.OneApplication.{one_functor_law, one_predicate_law}
use Rattle.mz_applied.proofs.laws.one_private_law.Goals as goal

pub returns-clause-functor : goal.returns-clause-functor
returns-clause-functor c = one_functor_law

pub returns-clause-predicate : goal.returns-clause-predicate
returns-clause-predicate c = one_predicate_law
