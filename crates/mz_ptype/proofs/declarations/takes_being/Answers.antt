use Rattle.std.proofs.Common.{rules, ◌≡◌, ◌∷◌, ◌∙◌, sym, refl, true, false}
use Rattle.mz_pterm.specs.declared.sign.Sign.TheVariants as signs
use Rattle.mz_pterm.specs.Sign.{sign_of}
use Rattle.mz_pterm.proofs.Signs.{told_fixed}
use Rattle.mz_ptype.proofs.DeclarationSteps.{being_taken, no_being}
use Rattle.mz_ptype.proofs.declarations.takes_being.Goals as goal

pub returns-in-Be : goal.returns-in-Be
returns-in-Be c =
    let e : c.args.reader.now.rest.now ≡ c.in-Some.next.now ∷ c.in-Some.rest.now = search rules in
    let h : sign_of c.in-Some.next.now ≡ signs.Be = sym c.of.ensures ∙ c.in-Be.is in
    being_taken false c.in-Some.next.now _ _ (told_fixed signs.Be c.in-Some.next.now refl h) e

pub returns-in-Being : goal.returns-in-Being
returns-in-Being c =
    let e : c.args.reader.now.rest.now ≡ c.in-Some.next.now ∷ c.in-Some.rest.now = search rules in
    let h : sign_of c.in-Some.next.now ≡ signs.Being = sym c.of.ensures ∙ c.in-Being.is in
    being_taken true c.in-Some.next.now _ _ (told_fixed signs.Being c.in-Some.next.now refl h) e

pub returns-in_default-of : goal.returns-in_default-of
returns-in_default-of c =
    let e : c.args.reader.now.rest.now ≡ c.in-Some.next.now ∷ c.in-Some.rest.now = search rules in
    let s = c.of.ensures in
    no_being c.in-Some.next.now _ c.in-Some.rest.now (λ h. c.in_default-of.not-Be (s ∙ h)) (λ h. c.in_default-of.not-Being (s ∙ h)) e
