use Rattle.std.proofs.Common.{rules, sym, ◌∙◌, ◌≡◌, ◌∷◌, true, false}
use Rattle.mz_pstep.proofs.Equals.{equals_taken, equals_not_taken}
use Rattle.mz_pstep.proofs.equalities.takes_equals.Goals as goal

pub returns-then-is_equals : goal.returns-then-is_equals
returns-then-is_equals c =
    let e : c.args.reader.now.rest.now ≡ c.in-Some.next.now ∷ c.in-Some.rest.now = search rules in
    let r : c.is_equals.result ≡ true = search rules in
    equals_taken _ _ _ (sym c.is_equals.ensures ∙ r) e

pub returns-else-is_equals : goal.returns-else-is_equals
returns-else-is_equals c =
    let e : c.args.reader.now.rest.now ≡ c.in-Some.next.now ∷ c.in-Some.rest.now = search rules in
    let r : c.is_equals.result ≡ false = search rules in
    equals_not_taken _ _ _ (sym c.is_equals.ensures ∙ r) e
