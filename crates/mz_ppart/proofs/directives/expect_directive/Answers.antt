use Rattle.std.proofs.Common.{rules, sym, ◌∙◌, ◌≡◌, ◌∷◌}
use Rattle.mz_pterm.proofs.Steps.{is_nil}
use Rattle.mz_ppart.proofs.DirectiveSteps.{directive_found, directive_refused, directive_left_out}
use Rattle.mz_ppart.proofs.directives.expect_directive.Goals as goal

pub returns-in_default : goal.returns-in_default
returns-in_default c = λ room. directive_left_out room _ (is_nil _ (search rules))

pub returns-in-Some-directive_of : goal.returns-in-Some-directive_of
returns-in-Some-directive_of c = λ room.
    let e : c.args.reader.now.rest.now ≡ c.in-Some.next.now ∷ c.in-Some.rest.now = search rules in
    directive_found room c.in-Some.next.now _ c.in-Some.rest.now _ (sym c.directive_of.ensures ∙ c.in-Some-directive_of.is) e

pub returns-in-None : goal.returns-in-None
returns-in-None c = λ room.
    let e : c.args.reader.now.rest.now ≡ c.in-Some.next.now ∷ c.in-Some.rest.now = search rules in
    directive_refused room c.in-Some.next.now _ c.in-Some.rest.now (sym c.directive_of.ensures ∙ c.in-None.is) e
