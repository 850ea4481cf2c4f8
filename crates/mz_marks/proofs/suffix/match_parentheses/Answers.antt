use Rattle.std.proofs.Common.{◌≡◌, ◌++◌, ◌∷◌, [], sym, ap, ◌∙◌}
use Rattle.mz_marks.specs.Suffix.{front, top}
use Rattle.mz_marks.proofs.MarkLemmas.{front_last, top_last}
use Rattle.mz_marks.proofs.suffix.match_parentheses.Goals as goal

pub returns-in-Some-clause-arrows : goal.returns-in-Some-clause-arrows
returns-in-Some-clause-arrows c =
    let e : c.args.arrows.now.items ≡ c.pop.new.self.items ++ c.in-Some.arrow ∷ [] = c.in-Some.ensures.items in
    rw c.in-Open.is (sym (ap front e ∙ front_last c.pop.new.self.items c.in-Some.arrow))

pub returns-in-Some-clause-matched : goal.returns-in-Some-clause-matched
returns-in-Some-clause-matched c =
    let e : c.args.arrows.now.items ≡ c.pop.new.self.items ++ c.in-Some.arrow ∷ [] = c.in-Some.ensures.items in
    rw c.in-Open.is (sym (ap top e ∙ top_last c.pop.new.self.items c.in-Some.arrow))
