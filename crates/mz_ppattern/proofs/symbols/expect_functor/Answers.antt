use Rattle.std.proofs.Common.{rules, sym, ◌∙◌, ◌≡◌, ◌∷◌, true}
use Rattle.std.proofs.lemmas.Result.{err_from_is_err_and}
use Rattle.mz_pterm.specs.declared.sign.Sign.TheVariants as signs
use Rattle.mz_pterm.specs.Sign.{sign_of}
use Rattle.mz_pterm.proofs.Steps.{is_nil}
use Rattle.mz_ppattern.proofs.SymbolSteps.{functor_found, functor_refused, functor_left_out}
use Rattle.mz_ppattern.proofs.symbols.expect_functor.Goals as goal

pub returns-in_default : goal.returns-in_default
returns-in_default c = functor_left_out _ (is_nil _ (search rules))

pub returns-then-not-is : goal.returns-then-not-is
returns-then-not-is c =
    let e : c.args.reader.now.rest.now ≡ c.in-Some.next.now ∷ c.in-Some.rest.now = search rules in
    let other : c.of.result ≡ signs.Functor → ⊥ = search rules in
    functor_refused c.in-Some.next.now _ c.in-Some.rest.now (λ z. other (c.of.ensures ∙ z)) e

pub returns : goal.returns
returns c =
    let e : c.args.reader.now.rest.now ≡ c.in-Some.next.now ∷ c.in-Some.rest.now = search rules in
    let told : c.of.result ≡ signs.Functor = search rules in
    rw c.in_ok-symbol.ensures (functor_found c.in-Some.next.now _ c.in-Some.rest.now (sym c.of.ensures ∙ told) e)
