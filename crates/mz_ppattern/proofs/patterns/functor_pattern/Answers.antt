use Rattle.std.proofs.Common.{rules, ◌≡◌, ◌∷◌, ◌∙◌, sym}
use Rattle.std.proofs.lemmas.Result.{err_from_is_err_and}
use Rattle.mz_forms.proofs.Leads.{passes}
use Rattle.mz_tree_heading.specs.declared.patterns.FunctorPatternTree.TheVariants as functor_patterns
use Rattle.mz_pterm.specs.declared.sign.Sign.TheVariants as signs
use Rattle.mz_pterm.specs.Sign.{sign_of}
use Rattle.mz_pterm.proofs.Steps.{is_nil}
use Rattle.mz_ppattern.specs.Forms.{enclosed_form, symbol_pattern_form, functor_pattern_form}
use Rattle.mz_ppattern.proofs.FunctorPatterns.{make_enclosed, braces, make_braces, squares, make_squares, enclosed_leads, braces_lead, squares_lead, symbol_leads, functor_left_out}
use Rattle.mz_ppattern.proofs.patterns.functor_pattern.Goals as goal

pub returns-in_default : goal.returns-in_default
returns-in_default c = functor_left_out _ _ (is_nil _ (search rules))

pub returns-in_err-left-in-LeftBracket : goal.returns-in_err-left-in-LeftBracket
returns-in_err-left-in-LeftBracket c =
    let p = err_from_is_err_and c.from_residual.result c.from_residual.ensures.1 in
    let e : c.args.reader.now.rest.now ≡ c.in-Some.next.now ∷ c.in-Some.field-0-1.now = search rules in
    let h : sign_of c.in-Some.next.now ≡ signs.LeftBracket = sym c.of.ensures ∙ c.in-LeftBracket.is in
    rw (p.1, p.2) (passes functor_pattern_form enclosed_form _ make_enclosed _ _ _ _ (enclosed_leads _ _ _ _ h e) c.in_err-left-in-LeftBracket.ensures)

pub returns-in_ok-left-in-LeftBracket : goal.returns-in_ok-left-in-LeftBracket
returns-in_ok-left-in-LeftBracket c =
    let e : c.args.reader.now.rest.now ≡ c.in-Some.next.now ∷ c.in-Some.field-0-1.now = search rules in
    let h : sign_of c.in-Some.next.now ≡ signs.LeftBracket = sym c.of.ensures ∙ c.in-LeftBracket.is in
    (enclosed_leads c.args.room _ _ _ h e).finds _ _ c.in_ok-left-in-LeftBracket.ensures

pub returns-in_err-left-in-OpenBrace : goal.returns-in_err-left-in-OpenBrace
returns-in_err-left-in-OpenBrace c =
    let p = err_from_is_err_and c.from_residual-in_err-left-in-OpenBrace.result c.from_residual-in_err-left-in-OpenBrace.ensures.1 in
    let e : c.args.reader.now.rest.now ≡ c.in-Some.next.now ∷ c.in-Some.field-0-1.now = search rules in
    let h : sign_of c.in-Some.next.now ≡ signs.OpenBrace = sym c.of.ensures ∙ c.in-OpenBrace.is in
    rw (p.1, p.2) (passes functor_pattern_form braces _ make_braces _ _ _ _ (braces_lead _ _ _ _ h e) c.in_err-left-in-OpenBrace.ensures)

pub returns-in_ok-left-in-OpenBrace : goal.returns-in_ok-left-in-OpenBrace
returns-in_ok-left-in-OpenBrace c =
    let e : c.args.reader.now.rest.now ≡ c.in-Some.next.now ∷ c.in-Some.field-0-1.now = search rules in
    let h : sign_of c.in-Some.next.now ≡ signs.OpenBrace = sym c.of.ensures ∙ c.in-OpenBrace.is in
    (braces_lead c.args.room _ _ _ h e).finds _ _ c.in_ok-left-in-OpenBrace.ensures

pub returns-in_err-left-in-OpenSquare : goal.returns-in_err-left-in-OpenSquare
returns-in_err-left-in-OpenSquare c =
    let p = err_from_is_err_and c.from_residual-in_err-left-in-OpenSquare.result c.from_residual-in_err-left-in-OpenSquare.ensures.1 in
    let e : c.args.reader.now.rest.now ≡ c.in-Some.next.now ∷ c.in-Some.field-0-1.now = search rules in
    let h : sign_of c.in-Some.next.now ≡ signs.OpenSquare = sym c.of.ensures ∙ c.in-OpenSquare.is in
    rw (p.1, p.2) (passes functor_pattern_form squares _ make_squares _ _ _ _ (squares_lead _ _ _ _ h e) c.in_err-left-in-OpenSquare.ensures)

pub returns-in_ok-left-in-OpenSquare : goal.returns-in_ok-left-in-OpenSquare
returns-in_ok-left-in-OpenSquare c =
    let e : c.args.reader.now.rest.now ≡ c.in-Some.next.now ∷ c.in-Some.field-0-1.now = search rules in
    let h : sign_of c.in-Some.next.now ≡ signs.OpenSquare = sym c.of.ensures ∙ c.in-OpenSquare.is in
    (squares_lead c.args.room _ _ _ h e).finds _ _ c.in_ok-left-in-OpenSquare.ensures

pub returns-in_err-pattern-in_default-of : goal.returns-in_err-pattern-in_default-of
returns-in_err-pattern-in_default-of c =
    let p = err_from_is_err_and c.from_residual-in_err-pattern-in_default-of.result c.from_residual-in_err-pattern-in_default-of.ensures.1 in
    let e : c.args.reader.now.rest.now ≡ c.in-Some.next.now ∷ c.in-Some.field-0-1.now = search rules in
    let s = c.of.ensures in
    rw (p.1, p.2) (passes functor_pattern_form symbol_pattern_form _ (λ a. functor_patterns.Symbol a) _ _ _ _ (symbol_leads _ c.in-Some.next.now _ _ (λ h. c.in_default-of.not-LeftBracket (s ∙ h)) (λ h. c.in_default-of.not-OpenBrace (s ∙ h)) (λ h. c.in_default-of.not-OpenSquare (s ∙ h)) e) c.in_err-pattern-in_default-of.ensures)

pub returns-in_ok-pattern-in_default-of : goal.returns-in_ok-pattern-in_default-of
returns-in_ok-pattern-in_default-of c =
    let e : c.args.reader.now.rest.now ≡ c.in-Some.next.now ∷ c.in-Some.field-0-1.now = search rules in
    let s = c.of.ensures in
    (symbol_leads c.args.room c.in-Some.next.now _ _ (λ h. c.in_default-of.not-LeftBracket (s ∙ h)) (λ h. c.in_default-of.not-OpenBrace (s ∙ h)) (λ h. c.in_default-of.not-OpenSquare (s ∙ h)) e).finds _ _ c.in_ok-pattern-in_default-of.ensures
