use Rattle.mz_answers.proofs.AnswerLemmas.{told_right}
use Rattle.mz_answers.proofs.kept.literal_fits_kept.Goals as goal

-- where there was no room for the answer, and where there was
pub returns-in_err-keep-clause-right : goal.returns-in_err-keep-clause-right
returns-in_err-keep-clause-right c = told_right c.args.clauses.now c.args.constants.now c.args.answers.now c.keep.new.self c.args.l.now c.in_ok-fits.fits c.requires c.in_ok-fits.ensures c.keep.ensures

pub returns-clause-right : goal.returns-clause-right
returns-clause-right c = told_right c.args.clauses.now c.args.constants.now c.args.answers.now c.keep.new.self c.args.l.now c.in_ok-fits.fits c.requires c.in_ok-fits.ensures c.keep.ensures
