use Rattle.mz_private_laws.proofs.OnePrivate.{one_places_read, one_functor_read, one_predicate_read}
use Rattle.mz_private_laws.proofs.laws.one_private_law.Goals as goal

pub returns-clause-places : goal.returns-clause-places
returns-clause-places c = one_places_read

pub returns-clause-functor : goal.returns-clause-functor
returns-clause-functor c = one_functor_read

pub returns-clause-predicate : goal.returns-clause-predicate
returns-clause-predicate c = one_predicate_read
