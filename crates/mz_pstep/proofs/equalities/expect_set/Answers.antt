use Rattle.std.proofs.Common.{rules, sym, ◌∙◌, ◌≡◌, ◌∷◌, true, false}
use Rattle.mz_pterm.specs.declared.sign.Sign.TheVariants as signs
use Rattle.mz_pterm.specs.Sign.{sign_of}
use Rattle.mz_pterm.proofs.Steps.{is_nil}
use Rattle.mz_pstep.proofs.Equals.{set_found, set_other, set_misspelled, set_left_out}
use Rattle.mz_pstep.proofs.equalities.expect_set.Goals as goal

pub returns-in_default : goal.returns-in_default
returns-in_default c = set_left_out 0 _ (is_nil _ (search rules))

pub returns-then-not-is : goal.returns-then-not-is
returns-then-not-is c =
    let e : c.args.reader.now.rest.now ≡ c.in-Some.next.now ∷ c.in-Some.rest.now = search rules in
    let other : c.of.result ≡ signs.Mode → ⊥ = search rules in
    let differ : sign_of c.in-Some.next.now ≡ signs.Mode → ⊥ = λ z. other (c.of.ensures ∙ z) in
    set_other 0 c.in-Some.next.now _ c.in-Some.rest.now differ e

pub returns-then-not-spells : goal.returns-then-not-spells
returns-then-not-spells c =
    let e : c.args.reader.now.rest.now ≡ c.in-Some.next.now ∷ c.in-Some.rest.now = search rules in
    let r : c.spells.result ≡ false = search rules in
    let told = sym c.spells.ensures ∙ r in
    let other = rw c.as_slice.ensures at told in
    set_misspelled 0 c.in-Some.next.now _ c.in-Some.rest.now other e

pub returns : goal.returns
returns c =
    let e : c.args.reader.now.rest.now ≡ c.in-Some.next.now ∷ c.in-Some.rest.now = search rules in
    let told : c.of.result ≡ signs.Mode = search rules in
    let r : c.spells.result ≡ true = search rules in
    let spelled = sym c.spells.ensures ∙ r in
    let same = rw c.as_slice.ensures at spelled in
    set_found 0 c.in-Some.next.now _ c.in-Some.rest.now (sym c.of.ensures ∙ told) same e
