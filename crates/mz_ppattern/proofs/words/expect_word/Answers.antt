use Rattle.mz_ppattern.specs.Words.{is_word, word_token}
use Rattle.mz_ppattern.proofs.WordSteps.{word_own, word_told, word_same, one_found, one_missing}
use Rattle.mz_ppattern.proofs.words.expect_word.Goals as goal

pub returns-in-None : goal.returns-in-None
returns-in-None c =
    let none = rw c.in-None.is at c.takes_word.ensures in
    one_missing (word_token c.args.word.now) (is_word c.args.word.now) (word_own c.args.word.now) (word_told c.args.word.now) (word_same c.args.word.now) 0 _ _ none

pub returns-in-Some : goal.returns-in-Some
returns-in-Some c =
    let taken = rw c.in-Some.is at c.takes_word.ensures in
    one_found (word_token c.args.word.now) (is_word c.args.word.now) (word_own c.args.word.now) (word_told c.args.word.now) (word_same c.args.word.now) 0 _ _ _ taken
