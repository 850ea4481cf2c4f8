use Rattle.mz_choice.proofs.CoverLemmas.{told_later}
use Rattle.mz_choice.proofs.cover.+some_covers.Goals as goal

pub returns-in_ok-covered-in-Some-clause-covers : goal.returns-in_ok-covered-in-Some-clause-covers
returns-in_ok-covered-in-Some-clause-covers t c = told_later _ _ _ _ _ _ _ _ _ _ c.in-Some.ensures.cases.0 c.in_ok-here-in-Some.ensures.covers c.if-here.false c.covers_by.ensures.same c.in_ok-covered-in-Some.ensures.covers
