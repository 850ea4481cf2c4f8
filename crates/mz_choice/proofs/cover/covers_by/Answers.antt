use Rattle.mz_choice.proofs.CoverLemmas.{told_member}
use Rattle.mz_choice.proofs.cover.covers_by.Goals as goal

pub returns-in_ok-fit-in-Some-clause-covers : goal.returns-in_ok-fit-in-Some-clause-covers
returns-in_ok-fit-in-Some-clause-covers c = told_member _ _ _ _ _ _ _ _ _ _ c.is.ensures.same c.if-not-is.false c.in_ok-member_matches.ensures c.in-Some.is c.in_ok-at-in-Some.ensures c.in_ok-fit-in-Some.ensures.fits
