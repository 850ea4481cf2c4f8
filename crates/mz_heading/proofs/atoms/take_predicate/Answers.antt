use Rattle.mz_defined.specs.Atoms.{AtomRead, predicate_heading}
use Rattle.mz_heading.proofs.HeadingLemmas.{told_formulas, told_no_formulas}
use Rattle.mz_heading.proofs.atoms.take_predicate.Goals as goal

pub returns-in-Means : goal.returns-in-Means
returns-in-Means g c =
    told_formulas c.args.least c.args.s.now _ (predicate_heading c.args.least c.args.s.now.context c.args.t.now) (AtomRead c.args.least c.args.s.now) c.args.ws.now c.args.behind _ _ _ c.in-Means.cases c.take_predicate_by.result _ _ c.in-Means.is c.take_predicate_by.ensures

pub returns-in-Equals : goal.returns-in-Equals
returns-in-Equals g c =
    told_no_formulas _ c.args.least c.args.s.now _ (predicate_heading c.args.least c.args.s.now.context c.args.t.now) (AtomRead c.args.least c.args.s.now) c.args.ws.now c.args.behind _ _ _ _ _ _ c.not_built.result c.in-Equals.is c.not_built.ensures
