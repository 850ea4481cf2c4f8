use Rattle.mz_pstep.proofs.Equals.{equals_found, equals_missing}
use Rattle.mz_pstep.proofs.equalities.expect_equals.Goals as goal

pub returns-in-None : goal.returns-in-None
returns-in-None c =
    let none = rw c.in-None.is at c.takes_equals.ensures in
    equals_missing 0 _ _ none

pub returns-in-Some : goal.returns-in-Some
returns-in-Some c =
    let taken = rw c.in-Some.is at c.takes_equals.ensures in
    equals_found 0 _ _ _ taken
