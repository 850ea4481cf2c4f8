use Rattle.std.proofs.Common.{rules, ◌≡◌, sym, ◌∙◌, ◌∷◌}
use Rattle.mz_pterm.proofs.Steps.{is_nil}
use Rattle.mz_pblock.proofs.WordSteps.{property_found, property_left_out, property_refused}
use Rattle.mz_pblock.proofs.words.expect_property.Goals as goal

pub returns-in_default : goal.returns-in_default
returns-in_default c = λ room. property_left_out room _ (is_nil _ (search rules))

pub returns-in-Some-property_of : goal.returns-in-Some-property_of
returns-in-Some-property_of c = λ room.
    let e : c.args.reader.now.rest.now ≡ c.in-Some.next.now ∷ c.in-Some.rest.now = search rules in
    property_found room c.in-Some.next.now _ c.in-Some.rest.now _ (sym c.property_of.ensures ∙ c.in-Some-property_of.is) e

pub returns-in-None : goal.returns-in-None
returns-in-None c = λ room.
    let e : c.args.reader.now.rest.now ≡ c.in-Some.next.now ∷ c.in-Some.rest.now = search rules in
    property_refused room c.in-Some.next.now _ c.in-Some.rest.now (sym c.property_of.ensures ∙ c.in-None.is) e
