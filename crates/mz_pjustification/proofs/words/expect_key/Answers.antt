use Rattle.mz_pjustification.proofs.Taken.{key_found, key_missing}
use Rattle.mz_pjustification.proofs.words.expect_key.Goals as goal

pub returns-in-None : goal.returns-in-None
returns-in-None c =
    let none = rw c.in-None.is at c.takes_key.ensures in
    key_missing _ 0 _ _ none

pub returns-in-Some : goal.returns-in-Some
returns-in-Some c =
    let taken = rw c.in-Some.is at c.takes_key.ensures in
    key_found _ 0 _ _ _ c.requires taken
