use Rattle.std.proofs.Common.{rules, sym, ◌∙◌, ◌≡◌, ◌∷◌, true, false}
use Rattle.mz_ppattern.specs.Words.{is_word, word_token}
use Rattle.mz_ppattern.proofs.WordSteps.{word_own, word_told, word_same, one_taken, one_not_taken}
use Rattle.mz_ppattern.proofs.words.takes_word.Goals as goal

pub returns-then-is_word : goal.returns-then-is_word
returns-then-is_word c =
    let e : c.args.reader.now.rest.now ≡ c.in-Some.next.now ∷ c.in-Some.rest.now = search rules in
    let r : c.is_word.result ≡ true = search rules in
    one_taken (word_token c.args.word.now) (is_word c.args.word.now) (word_own c.args.word.now) (word_told c.args.word.now) (word_same c.args.word.now) _ _ _ (sym c.is_word.ensures ∙ r) e

pub returns-else-is_word : goal.returns-else-is_word
returns-else-is_word c =
    let e : c.args.reader.now.rest.now ≡ c.in-Some.next.now ∷ c.in-Some.rest.now = search rules in
    let r : c.is_word.result ≡ false = search rules in
    one_not_taken (word_token c.args.word.now) (is_word c.args.word.now) (word_own c.args.word.now) (word_told c.args.word.now) (word_same c.args.word.now) _ _ _ (sym c.is_word.ensures ∙ r) e
