use Rattle.mz_ppattern.specs.Words.{is_arrow, arrow_token}
use Rattle.mz_ppattern.proofs.WordSteps.{arrow_own, arrow_told, arrow_same, one_found, one_missing}
use Rattle.mz_ppattern.proofs.words.expect_arrow.Goals as goal

pub returns-in-None : goal.returns-in-None
returns-in-None c =
    let none = rw c.in-None.is at c.takes_arrow.ensures in
    one_missing arrow_token is_arrow arrow_own arrow_told arrow_same 0 _ _ none

pub returns-in-Some : goal.returns-in-Some
returns-in-Some c =
    let taken = rw c.in-Some.is at c.takes_arrow.ensures in
    one_found arrow_token is_arrow arrow_own arrow_told arrow_same 0 _ _ _ taken
