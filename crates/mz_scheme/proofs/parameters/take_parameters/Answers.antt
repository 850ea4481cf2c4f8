use Rattle.std.proofs.Common.{ap, ◌∙◌}
use Rattle.mz_scheme.proofs.ParameterLemmas.{told_all, told_all_refused}
use Rattle.mz_scheme.proofs.parameters.take_parameters.Goals as goal

pub returns-in-Ok : goal.returns-in-Ok
returns-in-Ok c = told_all _ _ _ _ _ _ _ _ _ _ _ (ap (λ ts. ts.first) c.trees.view_is) (c.as_slice.ensures.value ∙ ap (λ ts. ts.more) c.trees.view_is) c.take_parameter.ensures c.in-Ok.is c.take_more.ensures

pub returns-in-Err : goal.returns-in-Err
returns-in-Err c = told_all_refused _ _ _ _ _ _ _ _ _ _ (ap (λ ts. ts.first) c.trees.view_is) c.take_parameter.ensures c.in-Err.is
