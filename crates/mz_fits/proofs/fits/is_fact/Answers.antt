use Rattle.mz_fits.proofs.LimitLemmas.{told_fact}
use Rattle.mz_fits.proofs.fits.is_fact.Goals as goal

pub returns : goal.returns
returns c = told_fact c.args.d.now c.args.clauses.now c.args.l.now c.args.g.now _ c.holds.result c.requires c.in_ok-facts.ensures.facts c.holds.ensures
