use Rattle.mz_scheme.proofs.ParameterLemmas.{told_functor_parameter, told_predicate_parameter}
use Rattle.mz_scheme.proofs.parameters.take_parameter.Goals as goal

pub returns-in-Functor : goal.returns-in-Functor
returns-in-Functor c = told_functor_parameter _ _ _ _ _ _ _ _ _ _ _ _ c.in-Functor.is c.take_functors.ensures

pub returns-in-Predicate : goal.returns-in-Predicate
returns-in-Predicate c = told_predicate_parameter _ _ _ _ _ _ _ _ _ _ c.in-Predicate.is c.take_predicates.ensures
