use Rattle.mz_scheme.proofs.ParameterLemmas.{told_no_predicates, told_predicates}
use Rattle.mz_scheme.proofs.parameters.take_predicates.Goals as goal

pub returns-in-Err : goal.returns-in-Err
returns-in-Err c = told_no_predicates _ _ _ _ _ _ _ _ _ _ _ _ c.read_places.ensures.reads c.in-Err.is c.of_reading.ensures

pub returns-in_ok-declare_predicates-in-Ok : goal.returns-in_ok-declare_predicates-in-Ok
returns-in_ok-declare_predicates-in-Ok c = told_predicates _ _ _ _ _ _ _ _ _ _ _ c.read_places.ensures.reads c.in-Ok.is c.read_places.ensures.same c.in_ok-declare_predicates-in-Ok.ensures
