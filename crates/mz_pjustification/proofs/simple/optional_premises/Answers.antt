use Rattle.std.proofs.Common.{rules, sym, ◌∙◌, ◌≡◌, ◌∷◌}
use Rattle.std.proofs.lemmas.Result.{err_from_is_err_and}
use Rattle.mz_pterm.specs.declared.sign.Sign.TheVariants as signs
use Rattle.mz_pterm.specs.Sign.{sign_of}
use Rattle.mz_pterm.proofs.Steps.{is_nil}
use Rattle.mz_pjustification.proofs.SimpleSteps.{premises_at_end, premises_lack, premises_refused, some_premises}
use Rattle.mz_pjustification.proofs.simple.optional_premises.Goals as goal

pub returns-in_default : goal.returns-in_default
returns-in_default c = premises_at_end c.args.room _ (is_nil _ (search rules))

pub returns-then-not-is : goal.returns-then-not-is
returns-then-not-is c =
    let e : c.args.reader.now.rest.now ≡ c.in-Some.next.now ∷ c.in-Some.field-0-1.now = search rules in
    let other : c.of.result ≡ signs.Open → ⊥ = search rules in
    let differ : sign_of c.in-Some.next.now ≡ signs.Open → ⊥ = λ z. other (c.of.ensures ∙ z) in
    premises_lack c.args.room c.in-Some.next.now _ c.in-Some.field-0-1.now differ e

pub returns-in_err-tree : goal.returns-in_err-tree
returns-in_err-tree c =
    let p = err_from_is_err_and c.from_residual.result c.from_residual.ensures.1 in
    let e : c.args.reader.now.rest.now ≡ c.in-Some.next.now ∷ c.in-Some.field-0-1.now = search rules in
    let told : c.of.result ≡ signs.Open = search rules in
    let same : sign_of c.in-Some.next.now ≡ signs.Open = sym c.of.ensures ∙ told in
    rw (p.1, p.2) (premises_refused c.args.room c.in-Some.next.now _ c.in-Some.field-0-1.now _ _ same e c.in_err-tree.ensures)

pub returns : goal.returns
returns c =
    let e : c.args.reader.now.rest.now ≡ c.in-Some.next.now ∷ c.in-Some.field-0-1.now = search rules in
    let told : c.of.result ≡ signs.Open = search rules in
    let same : sign_of c.in-Some.next.now ≡ signs.Open = sym c.of.ensures ∙ told in
    some_premises c.args.room c.in-Some.next.now _ _ c.in-Some.field-0-1.now _ same e c.in_ok-tree.ensures
