use Rattle.std.proofs.Common.{rules, sym, ◌∙◌, ◌≡◌, ◌∷◌, true, false}
use Rattle.mz_ppattern.specs.Words.{is_arrow, arrow_token}
use Rattle.mz_ppattern.proofs.WordSteps.{arrow_own, arrow_told, arrow_same, one_taken, one_not_taken}
use Rattle.mz_ppattern.proofs.words.takes_arrow.Goals as goal

pub returns-then-is_arrow : goal.returns-then-is_arrow
returns-then-is_arrow c =
    let e : c.args.reader.now.rest.now ≡ c.in-Some.next.now ∷ c.in-Some.rest.now = search rules in
    let r : c.is_arrow.result ≡ true = search rules in
    one_taken arrow_token is_arrow arrow_own arrow_told arrow_same _ _ _ (sym c.is_arrow.ensures ∙ r) e

pub returns-else-is_arrow : goal.returns-else-is_arrow
returns-else-is_arrow c =
    let e : c.args.reader.now.rest.now ≡ c.in-Some.next.now ∷ c.in-Some.rest.now = search rules in
    let r : c.is_arrow.result ≡ false = search rules in
    one_not_taken arrow_token is_arrow arrow_own arrow_told arrow_same _ _ _ (sym c.is_arrow.ensures ∙ r) e
