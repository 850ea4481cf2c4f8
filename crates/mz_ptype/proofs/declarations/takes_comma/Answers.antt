use Rattle.std.proofs.Common.{rules, ◌≡◌, ◌∷◌, ◌∙◌, sym, true}
use Rattle.mz_pterm.specs.declared.sign.Sign.TheVariants as signs
use Rattle.mz_pterm.specs.Sign.{sign_of}
use Rattle.mz_ptype.proofs.DeclarationSteps.{dividing_taken, list_taken, list_not_taken, no_comma}
use Rattle.mz_ptype.proofs.declarations.takes_comma.Goals as goal

pub returns-in-DividingComma : goal.returns-in-DividingComma
returns-in-DividingComma c =
    let e : c.args.reader.now.rest.now ≡ c.in-Some.next.now ∷ c.in-Some.rest.now = search rules in
    let h : sign_of c.in-Some.next.now ≡ signs.DividingComma = sym c.of.ensures ∙ c.in-DividingComma.is in
    dividing_taken c.args.behind_terms c.in-Some.next.now _ _ h e

pub returns-then-behind_terms : goal.returns-then-behind_terms
returns-then-behind_terms c =
    let e : c.args.reader.now.rest.now ≡ c.in-Some.next.now ∷ c.in-Some.rest.now = search rules in
    let h : sign_of c.in-Some.next.now ≡ signs.ListComma = sym c.of.ensures ∙ c.in-ListComma.is in
    let on : c.args.behind_terms ≡ true = search rules in
    list_not_taken c.args.behind_terms c.in-Some.next.now _ _ h on e

pub returns-else-behind_terms : goal.returns-else-behind_terms
returns-else-behind_terms c =
    let e : c.args.reader.now.rest.now ≡ c.in-Some.next.now ∷ c.in-Some.rest.now = search rules in
    let h : sign_of c.in-Some.next.now ≡ signs.ListComma = sym c.of.ensures ∙ c.in-ListComma.is in
    let off : c.args.behind_terms ≡ true → ⊥ = search rules in
    list_taken c.args.behind_terms c.in-Some.next.now _ _ h off e

pub returns-in_default-of : goal.returns-in_default-of
returns-in_default-of c =
    let e : c.args.reader.now.rest.now ≡ c.in-Some.next.now ∷ c.in-Some.rest.now = search rules in
    let s = c.of.ensures in
    no_comma c.args.behind_terms c.in-Some.next.now _ c.in-Some.rest.now (λ h. c.in_default-of.not-DividingComma (s ∙ h)) (λ h. c.in_default-of.not-ListComma (s ∙ h)) e
