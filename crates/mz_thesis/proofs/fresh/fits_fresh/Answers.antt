use Rattle.std.proofs.Common.{◌∙◌}
use Rattle.mz_thesis.proofs.RowLemmas.{told_fresh}
use Rattle.mz_thesis.proofs.fresh.fits_fresh.Goals as goal

pub returns : goal.returns
returns c =
    told_fresh c.args.clauses.now c.args.constants.now c.in_ok-constants.constants c.args.known.now c.args.ty.now c.in_ok-fresh.fresh c.in_ok-guard.guard c.as_slice.result.now c.in_ok-fit.fit c.in_ok-fresh.ensures c.in_ok-guard.ensures
    (c.as_slice.ensures.value ∙ c.guard.view_is) c.in_ok-constants.ensures c.in_ok-fit.ensures
