use Rattle.std.proofs.Common.{◌∙◌}
use Rattle.mz_fits.proofs.FitLemmas.{told_fits}
use Rattle.mz_answers.proofs.kept.type_fits_kept.Goals as goal

pub returns-clause-fits : goal.returns-clause-fits
returns-clause-fits c = told_fits c.args.clauses.now c.args.constants.now c.args.t.now c.args.ty.now c.as_slice.result.now c.in_ok-fit.fit (c.as_slice.ensures.value ∙ (c.guard.view_is ∙ c.in_ok-guard.ensures)) c.in_ok-fit.ensures.fits
