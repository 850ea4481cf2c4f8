use Rattle.mz_heading_laws.proofs.HeadingProofs.{predicate_grows, attribute_grows, functor_grows, mode_grows, abbreviation_grows, predicate_keeps, attribute_keeps, functor_keeps, mode_keeps, abbreviation_keeps}
use Rattle.mz_heading_laws.proofs.OneProofs.{one_predicate, one_attribute, one_functor, one_mode, one_abbreviation}
use Rattle.mz_heading_laws.proofs.laws.heading_law.Goals as goal

pub returns-clause-grows_of_predicates : goal.returns-clause-grows_of_predicates
returns-clause-grows_of_predicates c = predicate_grows

pub returns-clause-grows_of_attributes : goal.returns-clause-grows_of_attributes
returns-clause-grows_of_attributes c = attribute_grows

pub returns-clause-grows_of_functors : goal.returns-clause-grows_of_functors
returns-clause-grows_of_functors c = functor_grows

pub returns-clause-grows_of_modes : goal.returns-clause-grows_of_modes
returns-clause-grows_of_modes c = mode_grows

pub returns-clause-grows_of_abbreviations : goal.returns-clause-grows_of_abbreviations
returns-clause-grows_of_abbreviations c = abbreviation_grows

pub returns-clause-keeps_of_predicates : goal.returns-clause-keeps_of_predicates
returns-clause-keeps_of_predicates c = predicate_keeps

pub returns-clause-keeps_of_attributes : goal.returns-clause-keeps_of_attributes
returns-clause-keeps_of_attributes c = attribute_keeps

pub returns-clause-keeps_of_functors : goal.returns-clause-keeps_of_functors
returns-clause-keeps_of_functors c = functor_keeps

pub returns-clause-keeps_of_modes : goal.returns-clause-keeps_of_modes
returns-clause-keeps_of_modes c = mode_keeps

pub returns-clause-keeps_of_abbreviations : goal.returns-clause-keeps_of_abbreviations
returns-clause-keeps_of_abbreviations c = abbreviation_keeps

pub returns-clause-one_of_predicates : goal.returns-clause-one_of_predicates
returns-clause-one_of_predicates c = one_predicate

pub returns-clause-one_of_attributes : goal.returns-clause-one_of_attributes
returns-clause-one_of_attributes c = one_attribute

pub returns-clause-one_of_functors : goal.returns-clause-one_of_functors
returns-clause-one_of_functors c = one_functor

pub returns-clause-one_of_modes : goal.returns-clause-one_of_modes
returns-clause-one_of_modes c = one_mode

pub returns-clause-one_of_abbreviations : goal.returns-clause-one_of_abbreviations
returns-clause-one_of_abbreviations c = one_abbreviation
