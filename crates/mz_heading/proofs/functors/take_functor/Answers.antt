use Rattle.mz_heading.proofs.HeadingLemmas.{told_functor_means, told_functor_equals}
use Rattle.mz_heading.proofs.functors.take_functor.Goals as goal

pub returns-in-Means : goal.returns-in-Means
returns-in-Means g c = told_functor_means c.args.least c.args.s.now _ c.args.t.now c.args.ws.now c.args.behind _ _ _ c.in-Means.cases c.take_means.result _ _ c.in-Means.is c.take_means.ensures

pub returns-in-Equals : goal.returns-in-Equals
returns-in-Equals g c = told_functor_equals c.args.least c.args.s.now _ c.args.t.now c.args.ws.now c.args.behind _ _ _ c.in-Equals.cases c.take_equals.result _ _ c.in-Equals.is c.take_equals.ensures
