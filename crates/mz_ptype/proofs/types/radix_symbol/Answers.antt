use Rattle.std.proofs.Common.{rules, ◌≡◌, ◌∷◌, ◌∙◌, sym, true, false}
use Rattle.mz_pterm.specs.declared.sign.Sign.TheVariants as signs
use Rattle.mz_pterm.specs.Sign.{sign_of}
use Rattle.mz_pterm.proofs.Steps.{is_nil}
use Rattle.mz_ptype.proofs.TypeSteps.{symbol_found, symbol_at_end, symbol_refused}
use Rattle.mz_ptype.proofs.types.radix_symbol.Goals as goal

pub returns-in_default : goal.returns-in_default
returns-in_default c = symbol_at_end _ _ (is_nil _ (search rules))

pub returns-in_ok-symbol-in-Mode : goal.returns-in_ok-symbol-in-Mode
returns-in_ok-symbol-in-Mode c =
    let e : c.args.reader.now.rest.now ≡ c.in-Some.next.now ∷ c.in-Some.rest.now = search rules in
    let h : sign_of c.in-Some.next.now ≡ signs.Mode = sym c.of.ensures ∙ c.in-Mode.is in
    symbol_found false 0 c.in-Some.next.now _ _ _ h c.in_ok-symbol-in-Mode.ensures e

pub returns-in_ok-symbol-in-Structure : goal.returns-in_ok-symbol-in-Structure
returns-in_ok-symbol-in-Structure c =
    let e : c.args.reader.now.rest.now ≡ c.in-Some.next.now ∷ c.in-Some.rest.now = search rules in
    let h : sign_of c.in-Some.next.now ≡ signs.Structure = sym c.of.ensures ∙ c.in-Structure.is in
    symbol_found true 0 c.in-Some.next.now _ _ _ h c.in_ok-symbol-in-Structure.ensures e

pub returns-in_default-of : goal.returns-in_default-of
returns-in_default-of c =
    let e : c.args.reader.now.rest.now ≡ c.in-Some.next.now ∷ c.in-Some.rest.now = search rules in
    let s = c.of.ensures in
    symbol_refused 0 c.in-Some.next.now _ c.in-Some.rest.now (λ h. c.in_default-of.not-Mode (s ∙ h)) (λ h. c.in_default-of.not-Structure (s ∙ h)) e
