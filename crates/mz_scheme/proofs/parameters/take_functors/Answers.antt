use Rattle.mz_scheme.proofs.ParameterLemmas.{told_no_places, told_no_type, told_functors}
use Rattle.mz_scheme.proofs.parameters.take_functors.Goals as goal

pub returns-in-Err : goal.returns-in-Err
returns-in-Err c = told_no_places _ _ _ _ _ _ _ _ _ _ _ _ _ c.read_places.ensures.reads c.in-Err.is c.of_reading.ensures

pub returns-in-Err-type_of : goal.returns-in-Err-type_of
returns-in-Err-type_of c = told_no_type _ _ _ _ _ _ _ _ _ _ _ _ _ _ _ _ _ c.read_places.ensures.reads c.in-Ok.is c.read_places.ensures.same c.type_of.ensures.reads c.in-Err-type_of.is c.of_reading-in-Err-type_of.ensures

pub returns : goal.returns
returns c = told_functors _ _ _ _ _ _ _ _ _ _ _ _ _ _ _ _ _ c.read_places.ensures.reads c.in-Ok.is c.read_places.ensures.same c.type_of.ensures.reads c.in-Ok-type_of.is c.type_of.ensures.same c.put_functors.ensures
