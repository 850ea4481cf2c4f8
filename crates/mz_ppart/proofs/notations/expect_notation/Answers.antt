use Rattle.std.proofs.Common.{rules, sym, ◌∙◌, ◌≡◌, ◌∷◌}
use Rattle.mz_pterm.proofs.Steps.{is_nil}
use Rattle.mz_ppart.proofs.DirectiveSteps.{notation_found, notation_refused, notation_left_out}
use Rattle.mz_ppart.proofs.notations.expect_notation.Goals as goal

pub returns-in_default : goal.returns-in_default
returns-in_default c = λ room. notation_left_out room _ (is_nil _ (search rules))

pub returns-in-Some-notation_of : goal.returns-in-Some-notation_of
returns-in-Some-notation_of c = λ room.
    let e : c.args.reader.now.rest.now ≡ c.in-Some.next.now ∷ c.in-Some.rest.now = search rules in
    notation_found room c.in-Some.next.now _ c.in-Some.rest.now _ (sym c.notation_of.ensures ∙ c.in-Some-notation_of.is) e

pub returns-in-None : goal.returns-in-None
returns-in-None c = λ room.
    let e : c.args.reader.now.rest.now ≡ c.in-Some.next.now ∷ c.in-Some.rest.now = search rules in
    notation_refused room c.in-Some.next.now _ c.in-Some.rest.now (sym c.notation_of.ensures ∙ c.in-None.is) e
