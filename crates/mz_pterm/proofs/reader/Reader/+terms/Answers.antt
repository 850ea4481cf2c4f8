use Rattle.std.proofs.Common.{rules, ◌≡◌, ◌∷◌, ◌∙◌, arith, true, false, refl, ap, sym}
use Rattle.std.proofs.lemmas.Result.{err_from_is_err_and}
use Rattle.mz_forms.proofs.Leads.{leads_on, passes}
use Rattle.mz_tree.specs.Rules.{start, MayTake}
use Rattle.mz_tree.specs.Views.{base_of}
use Rattle.mz_tree.proofs.Views.{base_of-identifier, base_of-subject, base_of-argument, base_of-group, base_of-call, base_of-call_with, base_of-selector, base_of-aggregate, base_of-brackets, base_of-braces, base_of-squares, piece_of-functor, piece_of-operand}
use Rattle.mz_pterm.specs.declared.sign.Sign.TheVariants as signs
use Rattle.mz_pterm.specs.Classes.{begins_operand}
use Rattle.mz_pterm.specs.Sign.{sign_of}
use Rattle.mz_pterm.specs.Forms.{operand_form, base_form, bracket, single, make_group, make_single, aggregate, make_aggregate, brackets, brackets_base, call_form, called, no_call, rest_of_term, term_form, terms_form, last_seen}
use Rattle.mz_pterm.proofs.Bases.{make_braces, make_squares}
use Rattle.mz_pterm.proofs.Operands.{operand_first, put_operand, run_of, some_terms, list_of}
use Rattle.mz_pterm.proofs.Steps.{is_nil, base_left_out, base_refused, it_found, argument_found, begin_braces, begin_squares, begin_brackets, left_refuses, identifier_at_end, identifier_alone, take_functor, behind_operand, operand_refuses, begin_operand, no_piece, not_begun, shorter, begin_term, begin_terms}
use Rattle.mz_pterm.proofs.Results.{close_terms_refused, close_refused, close_found, bracket_refused, bracket_found, bracket_unopened, single_unopened, single_term_refused, single_refused, single_found, brackets_terms_refused, brackets_refused, brackets_found, call_unopened, call_closed, call_refused, call_found}
use Rattle.mz_pterm.proofs.Loops.{prefixed_step, alone_end, base_leads, base_end, pieces_step, pieces_end, term_ends, term_stops, may_end, may_not_end, term_from, no_term, several_step, several_refused, several_end, terms_apart_refuses, terms_from, base_read, boxed_base, boxed_found, boxed_builds, identifier_read, structure_read, group_read, bracketed_of-single_seen}
use Rattle.mz_pterm.proofs.reader.Reader.+terms.Goals as goal

pub base-returns-in_default : goal.base-returns-in_default
base-returns-in_default t c =
    base_left_out _ _ _ _ (is_nil _ (search rules))

pub base-returns-in_err-inside-in-OpenBrace : goal.base-returns-in_err-inside-in-OpenBrace
base-returns-in_err-inside-in-OpenBrace t c =
    let p = err_from_is_err_and c.from_residual-in_err-inside-in-OpenBrace.result c.from_residual-in_err-inside-in-OpenBrace.ensures.1 in
    let e : c.args.self.now.rest.now ≡ c.in-Some.next.now ∷ c.in-Some.rest.now = search rules in
    let h : sign_of c.in-Some.next.now ≡ signs.OpenBrace = sym c.of.ensures ∙ c.in-OpenBrace.is in
    rw (p.1, p.2) (passes (base_form c.args.field c.args.behind) (bracket c.args.field signs.OpenBrace signs.CloseBrace) _ _ _ _ _ _ (begin_braces _ _ _ _ _ _ h e) c.in_err-inside-in-OpenBrace.ensures)

pub base-returns-in_err-inside-in-OpenSquare : goal.base-returns-in_err-inside-in-OpenSquare
base-returns-in_err-inside-in-OpenSquare t c =
    let p = err_from_is_err_and c.from_residual-in_err-inside-in-OpenSquare.result c.from_residual-in_err-inside-in-OpenSquare.ensures.1 in
    let e : c.args.self.now.rest.now ≡ c.in-Some.next.now ∷ c.in-Some.rest.now = search rules in
    let h : sign_of c.in-Some.next.now ≡ signs.OpenSquare = sym c.of.ensures ∙ c.in-OpenSquare.is in
    rw (p.1, p.2) (passes (base_form c.args.field c.args.behind) (bracket c.args.field signs.OpenSquare signs.CloseSquare) _ _ _ _ _ _ (begin_squares _ _ _ _ _ _ h e) c.in_err-inside-in-OpenSquare.ensures)

pub base-returns-in_ok-name-in-Identifier : goal.base-returns-in_ok-name-in-Identifier
base-returns-in_ok-name-in-Identifier t c =
    let e : c.args.self.now.rest.now ≡ c.in-Some.next.now ∷ c.in-Some.rest.now = search rules in
    let h : sign_of c.in-Some.next.now ≡ signs.Identifier = sym c.of.ensures ∙ c.in-Identifier.is in
    identifier_read _ _ _ _ _ _ _ _ _ h e c.in_ok-name-in-Identifier.ensures c.call.ensures

pub base-returns-in-It : goal.base-returns-in-It
base-returns-in-It t c =
    let e : c.args.self.now.rest.now ≡ c.in-Some.next.now ∷ c.in-Some.rest.now = search rules in
    let h : sign_of c.in-Some.next.now ≡ signs.It = sym c.of.ensures ∙ c.in-It.is in
    boxed_found _ _ _ _ _ _ _ _ (it_found _ _ _ _ _ _ h e) (base_of-subject _) c.boxed.ensures

pub base-returns-in-Argument : goal.base-returns-in-Argument
base-returns-in-Argument t c =
    let e : c.args.self.now.rest.now ≡ c.in-Some.next.now ∷ c.in-Some.rest.now = search rules in
    let h : sign_of c.in-Some.next.now ≡ signs.Argument c.in-Argument.number = sym c.of.ensures ∙ c.in-Argument.is in
    boxed_found _ _ _ _ _ _ _ _ (argument_found _ _ _ _ _ _ _ h e) (base_of-argument _ _) c.boxed-in-Argument.ensures

pub base-returns-in-LeftBracket : goal.base-returns-in-LeftBracket
base-returns-in-LeftBracket t c =
    let e : c.args.self.now.rest.now ≡ c.in-Some.next.now ∷ c.in-Some.rest.now = search rules in
    let h : sign_of c.in-Some.next.now ≡ signs.LeftBracket = sym c.of.ensures ∙ c.in-LeftBracket.is in
    base_read _ _ _ (brackets c.args.field) brackets_base _ _ _ (begin_brackets _ _ _ _ _ _ h e) c.brackets.ensures

pub base-returns-in_ok-inside-in-OpenBrace : goal.base-returns-in_ok-inside-in-OpenBrace
base-returns-in_ok-inside-in-OpenBrace t c =
    let e : c.args.self.now.rest.now ≡ c.in-Some.next.now ∷ c.in-Some.rest.now = search rules in
    let h : sign_of c.in-Some.next.now ≡ signs.OpenBrace = sym c.of.ensures ∙ c.in-OpenBrace.is in
    boxed_base _ _ _ (bracket c.args.field signs.OpenBrace signs.CloseBrace) make_braces _ _ _ _ _ _ (begin_braces _ _ _ _ _ _ h e) c.in_ok-inside-in-OpenBrace.ensures (base_of-braces _ _ _) c.boxed-in-OpenBrace.ensures

pub base-returns-in_ok-inside-in-OpenSquare : goal.base-returns-in_ok-inside-in-OpenSquare
base-returns-in_ok-inside-in-OpenSquare t c =
    let e : c.args.self.now.rest.now ≡ c.in-Some.next.now ∷ c.in-Some.rest.now = search rules in
    let h : sign_of c.in-Some.next.now ≡ signs.OpenSquare = sym c.of.ensures ∙ c.in-OpenSquare.is in
    boxed_base _ _ _ (bracket c.args.field signs.OpenSquare signs.CloseSquare) make_squares _ _ _ _ _ _ (begin_squares _ _ _ _ _ _ h e) c.in_ok-inside-in-OpenSquare.ensures (base_of-squares _ _ _) c.boxed-in-OpenSquare.ensures

pub base-returns-in_default-of : goal.base-returns-in_default-of
base-returns-in_default-of t c =
    let e : c.args.self.now.rest.now ≡ c.in-Some.next.now ∷ c.in-Some.rest.now = search rules in
    let s = c.of.ensures in
    base_refused _ _ _ c.in-Some.next.now _ c.in-Some.rest.now (λ h. c.in_default-of.not-Identifier (s ∙ h)) (λ h. c.in_default-of.not-It (s ∙ h)) (λ n h. c.in_default-of.not-Argument n (s ∙ h)) (λ h. c.in_default-of.not-Open (s ∙ h)) (λ h. c.in_default-of.not-Structure (s ∙ h)) (λ h. c.in_default-of.not-LeftBracket (s ∙ h)) (λ h. c.in_default-of.not-OpenBrace (s ∙ h)) (λ h. c.in_default-of.not-OpenSquare (s ∙ h)) e

pub base-returns-in-Open : goal.base-returns-in-Open
base-returns-in-Open t c =
    let e : c.args.self.now.rest.now ≡ c.in-Some.next.now ∷ c.in-Some.rest.now = search rules in
    let h : sign_of c.in-Some.next.now ≡ signs.Open = sym c.of.ensures ∙ c.in-Open.is in
    group_read _ _ _ _ _ _ _ _ h e c.group.ensures

pub base-returns-in_ok-name-in-Structure : goal.base-returns-in_ok-name-in-Structure
base-returns-in_ok-name-in-Structure t c =
    let e : c.args.self.now.rest.now ≡ c.in-Some.next.now ∷ c.in-Some.rest.now = search rules in
    let h : sign_of c.in-Some.next.now ≡ signs.Structure = sym c.of.ensures ∙ c.in-Structure.is in
    structure_read _ _ _ _ _ _ _ _ _ h e c.in_ok-name-in-Structure.ensures c.aggregate.ensures

pub group-returns-in_err-inside : goal.group-returns-in_err-inside
group-returns-in_err-inside t c =
    let p = err_from_is_err_and c.from_residual.result c.from_residual.ensures.1 in
    let on : c.args.behind ≡ true = search rules in
    rw (p.1, p.2, on) c.in_err-inside.ensures

pub group-returns-in_err-inside-2 : goal.group-returns-in_err-inside-2
group-returns-in_err-inside-2 t c =
    let p = err_from_is_err_and c.from_residual-in_err-inside-2.result c.from_residual-in_err-inside-2.ensures.1 in
    let off : c.args.behind ≡ false = search rules in
    rw (p.1, p.2, off) c.in_err-inside-2.ensures

pub group-returns-in_ok-inside : goal.group-returns-in_ok-inside
group-returns-in_ok-inside t c =
    let on : c.args.behind ≡ true = search rules in
    let k = c.in_ok-inside.ensures in
    rw on (boxed_builds (single c.args.field) make_single _ k.0 _ _ _ _ k.1 (base_of-group _ _ _ ∙ ap make_group k.2) c.boxed.ensures)

pub group-returns-in_ok-inside-2 : goal.group-returns-in_ok-inside-2
group-returns-in_ok-inside-2 t c =
    let off : c.args.behind ≡ false = search rules in
    rw off (boxed_builds (bracket c.args.field signs.Open signs.Close) make_group _ _ _ _ _ _ c.in_ok-inside-2.ensures (base_of-group _ _ _) c.boxed-else-behind.ensures)

pub aggregate-returns-in_err-inside : goal.aggregate-returns-in_err-inside
aggregate-returns-in_err-inside t c =
    let p = err_from_is_err_and c.from_residual.result c.from_residual.ensures.1 in
    rw (p.1, p.2) c.in_err-inside.ensures

pub aggregate-returns : goal.aggregate-returns
aggregate-returns t c =
    boxed_builds (aggregate c.args.field) (make_aggregate c.args.name) _ _ _ _ _ _ c.in_ok-inside.ensures (base_of-aggregate _ _ _ _) c.boxed.ensures

pub bracketed-returns-in_err-open : goal.bracketed-returns-in_err-open
bracketed-returns-in_err-open t c =
    let p = err_from_is_err_and c.from_residual.result c.from_residual.ensures.1 in
    rw (p.1, p.2) (bracket_unopened _ _ _ _ _ _ _ c.in_err-open.ensures.reads)

pub bracketed-returns-in_err-terms : goal.bracketed-returns-in_err-terms
bracketed-returns-in_err-terms t c =
    let p = err_from_is_err_and c.from_residual-in_err-terms.result c.from_residual-in_err-terms.ensures.1 in
    rw (p.1, p.2) (bracket_refused c.args.field _ c.requires.closing _ c.in_ok-open.ensures.room _ _ _ _ _ _ c.in_ok-open.ensures.reads (close_terms_refused c.args.field _ c.requires.closing _ c.in_ok-open.ensures.room _ _ _ c.in_err-terms.ensures))

pub bracketed-returns-in_err-close : goal.bracketed-returns-in_err-close
bracketed-returns-in_err-close t c =
    let p = err_from_is_err_and c.from_residual-in_err-close.result c.from_residual-in_err-close.ensures.1 in
    rw (p.1, p.2) (bracket_refused c.args.field _ c.requires.closing _ c.in_ok-open.ensures.room _ _ _ _ _ _ c.in_ok-open.ensures.reads (close_refused c.args.field _ c.requires.closing _ c.in_ok-open.ensures.room _ _ _ _ _ c.in_ok-terms.ensures c.in_err-close.ensures))

pub bracketed-returns : goal.bracketed-returns
bracketed-returns t c =
    bracket_found c.args.field _ c.requires.closing _ c.in_ok-open.ensures.room _ _ _ _ _ _ c.in_ok-open.ensures.reads (close_found c.args.field _ c.requires.closing _ c.in_ok-open.ensures.room _ _ _ _ _ c.in_ok-terms.ensures c.in_ok-close.ensures)

pub brackets-returns-in_err-open : goal.brackets-returns-in_err-open
brackets-returns-in_err-open t c =
    let p = err_from_is_err_and c.from_residual.result c.from_residual.ensures.1 in
    rw (p.1, p.2) (left_refuses _ _ _ _ _ c.in_err-open.ensures.reads)

pub brackets-returns-in_err-terms : goal.brackets-returns-in_err-terms
brackets-returns-in_err-terms t c =
    let p = err_from_is_err_and c.from_residual-in_err-terms.result c.from_residual-in_err-terms.ensures.1 in
    rw (p.1, p.2) (brackets_terms_refused c.args.field _ c.in_ok-open.ensures.room _ _ _ c.in_ok-open.ensures.reads _ _ c.in_err-terms.ensures)

pub brackets-returns-in_err-close : goal.brackets-returns-in_err-close
brackets-returns-in_err-close t c =
    let p = err_from_is_err_and c.from_residual-in_err-close.result c.from_residual-in_err-close.ensures.1 in
    rw (p.1, p.2) (brackets_refused c.args.field _ c.in_ok-open.ensures.room _ _ _ c.in_ok-open.ensures.reads _ _ _ _ c.in_ok-terms.ensures c.in_err-close.ensures)

pub brackets-returns : goal.brackets-returns
brackets-returns t c =
    boxed_builds (brackets c.args.field) brackets_base _ _ _ _ _ _ (brackets_found c.args.field _ c.in_ok-open.ensures.room _ _ _ c.in_ok-open.ensures.reads _ _ _ _ c.in_ok-terms.ensures c.in_ok-close.ensures) (base_of-brackets _ _ _) c.boxed.ensures

pub call-returns-in_default : goal.call-returns-in_default
call-returns-in_default t c =
    boxed_builds (call_form c.args.field) (called c.args.name) _ no_call _ _ _ _ (identifier_at_end _ _ _ (is_nil _ (search rules))) (base_of-identifier _) c.boxed.ensures

pub call-returns-then-not-is : goal.call-returns-then-not-is
call-returns-then-not-is t c =
    let e : c.args.self.now.rest.now ≡ c.in-Some.next.now ∷ c.in-Some.field-0-1.now = search rules in
    let other : c.of.result ≡ signs.Open → ⊥ = search rules in
    let differ : sign_of c.in-Some.next.now ≡ signs.Open → ⊥ = λ z. other (c.of.ensures ∙ z) in
    boxed_builds (call_form c.args.field) (called c.args.name) _ no_call _ _ _ _ (identifier_alone _ _ _ _ _ differ e) (base_of-identifier _) c.boxed-then-not-is.ensures

pub call-returns-in_err-open : goal.call-returns-in_err-open
call-returns-in_err-open t c =
    let p = err_from_is_err_and c.from_residual.result c.from_residual.ensures.1 in
    let e : c.args.self.now.rest.now ≡ c.in-Some.next.now ∷ c.in-Some.field-0-1.now = search rules in
    let told : c.of.result ≡ signs.Open = search rules in
    let h : sign_of c.in-Some.next.now ≡ signs.Open = sym c.of.ensures ∙ told in
    rw (p.1, p.2) (call_unopened _ _ _ _ _ h e _ _ c.in_err-open.ensures.reads)

pub call-returns-in-Some-takes : goal.call-returns-in-Some-takes
call-returns-in-Some-takes t c =
    let e : c.args.self.now.rest.now ≡ c.in-Some.next.now ∷ c.in-Some.field-0-1.now = search rules in
    let told : c.of.result ≡ signs.Open = search rules in
    let h : sign_of c.in-Some.next.now ≡ signs.Open = sym c.of.ensures ∙ told in
    let is = rw c.in-Some-takes.is at c.takes.ensures in
    boxed_builds (call_form c.args.field) (called c.args.name) _ _ _ _ _ _ (call_closed _ _ _ _ _ h e _ _ c.in_ok-open.ensures.reads _ _ is) (base_of-call _ _ _) c.boxed-in-Some-takes.ensures

pub call-returns-in_err-terms : goal.call-returns-in_err-terms
call-returns-in_err-terms t c =
    let p = err_from_is_err_and c.from_residual-in_err-terms.result c.from_residual-in_err-terms.ensures.1 in
    let e : c.args.self.now.rest.now ≡ c.in-Some.next.now ∷ c.in-Some.field-0-1.now = search rules in
    let told : c.of.result ≡ signs.Open = search rules in
    let h : sign_of c.in-Some.next.now ≡ signs.Open = sym c.of.ensures ∙ told in
    let none = rw c.in_default-takes.is at c.takes.ensures in
    rw (p.1, p.2) (call_refused _ _ _ _ _ h e _ _ c.in_ok-open.ensures.reads _ _ _ none (close_terms_refused c.args.field signs.Close refl _ c.in_ok-open.ensures.room _ _ _ c.in_err-terms.ensures))

pub call-returns-in_err-close : goal.call-returns-in_err-close
call-returns-in_err-close t c =
    let p = err_from_is_err_and c.from_residual-in_err-close.result c.from_residual-in_err-close.ensures.1 in
    let e : c.args.self.now.rest.now ≡ c.in-Some.next.now ∷ c.in-Some.field-0-1.now = search rules in
    let told : c.of.result ≡ signs.Open = search rules in
    let h : sign_of c.in-Some.next.now ≡ signs.Open = sym c.of.ensures ∙ told in
    let none = rw c.in_default-takes.is at c.takes.ensures in
    rw (p.1, p.2) (call_refused _ _ _ _ _ h e _ _ c.in_ok-open.ensures.reads _ _ _ none (close_refused c.args.field signs.Close refl _ c.in_ok-open.ensures.room _ _ _ _ _ c.in_ok-terms.ensures c.in_err-close.ensures))

pub call-returns : goal.call-returns
call-returns t c =
    let e : c.args.self.now.rest.now ≡ c.in-Some.next.now ∷ c.in-Some.field-0-1.now = search rules in
    let told : c.of.result ≡ signs.Open = search rules in
    let h : sign_of c.in-Some.next.now ≡ signs.Open = sym c.of.ensures ∙ told in
    let none = rw c.in_default-takes.is at c.takes.ensures in
    boxed_builds (call_form c.args.field) (called c.args.name) _ _ _ _ _ _ (call_found _ _ _ _ _ h e _ _ c.in_ok-open.ensures.reads _ _ _ _ none (close_found c.args.field signs.Close refl _ c.in_ok-open.ensures.room _ _ _ _ _ c.in_ok-terms.ensures c.in_ok-close.ensures)) (base_of-call_with _ _ _ _) c.boxed-2.ensures

pub operand-returns-in_err-selected : goal.operand-returns-in_err-selected
operand-returns-in_err-selected t c =
    let p = err_from_is_err_and c.from_residual.result c.from_residual.ensures.1 in
    rw (p.1, p.2) (passes (operand_form c.args.field false) (operand_form c.args.field c.prefixes.behind) _ _ _ _ _ _ c.prefixes.invariant.leads (c.in_err-selected.ensures c.prefixes.behind c.args.room))

pub operand-prefixes-smaller : goal.operand-prefixes-smaller
operand-prefixes-smaller t c =
    let h = rw (c.in-Some.is, c.in-Of.is) at (c.in_ok-selected.ensures c.prefixes.behind c.args.room) in
    h.1

pub operand-prefixes-preserved : goal.operand-prefixes-preserved
operand-prefixes-preserved t c =
    let h = rw (c.in-Some.is, c.in-Of.is) at (c.in_ok-selected.ensures c.prefixes.behind c.args.room) in
    prefixed_step _ _ _ _ _ _ _ _ _ _ _ c.prefixes.invariant c.in_ok-push-in-Of.ensures.items h

pub operand-returns-in-Alone : goal.operand-returns-in-Alone
operand-returns-in-Alone t c =
    let h = rw (c.in-Some.is, c.in-Alone.is) at (c.in_ok-selected.ensures c.prefixes.behind c.args.room) in
    alone_end _ _ _ _ _ _ _ _ _ _ c.prefixes.invariant (ap base_of c.in_ok-base-in-Alone.ensures ∙ base_of-selector _ _) h

pub operand-returns-in_err-base : goal.operand-returns-in_err-base
operand-returns-in_err-base t c =
    let p = err_from_is_err_and c.from_residual-in_err-base.result c.from_residual-in_err-base.ensures.1 in
    let none = rw c.in_default.is at (c.in_ok-selected.ensures c.prefixes.behind c.args.room) in
    rw (p.1, p.2) (passes (operand_form c.args.field false) (base_form c.args.field c.prefixes.behind) _ _ _ _ _ _ (base_leads _ _ _ _ _ _ _ c.prefixes.invariant none) c.in_err-base.ensures)

pub operand-returns : goal.operand-returns
operand-returns t c =
    let none = rw c.in_default.is at (c.in_ok-selected.ensures c.prefixes.behind c.args.room) in
    base_end _ _ _ _ _ _ _ _ _ c.prefixes.invariant none c.in_ok-base.ensures

pub piece-returns-then-is : goal.piece-returns-then-is
piece-returns-then-is t c =
    let e : c.args.self.now.rest.now ≡ c.in-Some.next.now ∷ c.in-Some.rest.now = search rules in
    let told : c.of-sign.result ≡ signs.Functor = search rules in
    let h : sign_of c.in-Some.next.now ≡ signs.Functor = sym c.of-sign.ensures ∙ told in
    (rw (piece_of-functor _ _, c.in_ok-symbol.ensures) (take_functor _ _ _ _ _ _ h e), rw e (omega arith))

pub piece-returns-then-not-begins_operand : goal.piece-returns-then-not-begins_operand
piece-returns-then-not-begins_operand t c =
    let e : c.args.self.now.rest.now ≡ c.in-Some.next.now ∷ c.in-Some.rest.now = search rules in
    let other : c.of-sign.result ≡ signs.Functor → ⊥ = search rules in
    let differ : sign_of c.in-Some.next.now ≡ signs.Functor → ⊥ = λ z. other (c.of-sign.ensures ∙ z) in
    let off : begins_operand (sign_of c.in-Some.next.now) ≡ false = search rules in
    (refl, no_piece _ _ _ _ _ differ (λ g m. not_begun _ off g) e)

pub piece-returns-then-not-takes_operand : goal.piece-returns-then-not-takes_operand
piece-returns-then-not-takes_operand t c =
    let e : c.args.self.now.rest.now ≡ c.in-Some.next.now ∷ c.in-Some.rest.now = search rules in
    let other : c.of-sign.result ≡ signs.Functor → ⊥ = search rules in
    let differ : sign_of c.in-Some.next.now ≡ signs.Functor → ⊥ = λ z. other (c.of-sign.ensures ∙ z) in
    let off : MayTake (last_seen c.args.last) → ⊥ = search rules in
    (refl, no_piece _ _ _ _ _ differ (λ g m. off m) e)

pub piece-returns-in_err-operand : goal.piece-returns-in_err-operand
piece-returns-in_err-operand t c =
    let p = err_from_is_err_and c.from_residual-in_err-operand.result c.from_residual-in_err-operand.ensures.1 in
    let e : c.args.self.now.rest.now ≡ c.in-Some.next.now ∷ c.in-Some.rest.now = search rules in
    let may : MayTake (last_seen c.args.last) = search rules in
    let begun : begins_operand (sign_of c.in-Some.next.now) ≡ true = search rules in
    rw (p.1, p.2) (passes (rest_of_term c.args.field (last_seen c.args.last)) _ _ _ _ _ _ _ (begin_operand _ _ _ _ _ _ begun may e) (operand_refuses _ _ _ _ _ _ c.in_err-operand.ensures))

pub piece-returns : goal.piece-returns
piece-returns t c =
    let e : c.args.self.now.rest.now ≡ c.in-Some.next.now ∷ c.in-Some.rest.now = search rules in
    let may : MayTake (last_seen c.args.last) = search rules in
    let begun : begins_operand (sign_of c.in-Some.next.now) ≡ true = search rules in
    let found = c.in_ok-operand.ensures in (
      rw (piece_of-operand _, c.after-last.ensures)
          (leads_on (rest_of_term c.args.field (last_seen c.args.last)) (operand_first c.args.field (last_seen c.args.last)) _ _ put_operand _ _ _ _ (begin_operand _ _ _ _ _ _ begun may e) (behind_operand _ _ _ _ _ _ found)),
      shorter _ _ _ _ found.found.is found.found.split,
    )

pub rest_of_term-pieces-preserved : goal.rest_of_term-pieces-preserved
rest_of_term-pieces-preserved t c =
    let h = rw c.in-Some.is at c.in_ok-piece.ensures in
    (pieces_step _ _ _ _ _ _ _ _ _ _ _ c.pieces.invariant.0 c.in_ok-push.ensures.items h.0, c.pieces.invariant.1)

pub rest_of_term-returns-in-Start : goal.rest_of_term-returns-in-Start
rest_of_term-returns-in-Start t c =
    let h = rw c.in_default.is at c.in_ok-piece.ensures in
    c.pieces.invariant.0.leads.fails _ (term_stops _ _ _ _ _ (may_not_end _ c.in-Start.is) h)

pub rest_of_term-returns-in-Functor : goal.rest_of_term-returns-in-Functor
rest_of_term-returns-in-Functor t c =
    let h = rw c.in_default.is at c.in_ok-piece.ensures in
    pieces_end _ _ _ _ _ _ _ _ _ _ c.pieces.invariant.1 c.pieces.invariant.0 (term_ends _ _ _ _ _ (may_end _ c.in-Functor.is) h)

pub rest_of_terms-returns-in_err-tree : goal.rest_of_terms-returns-in_err-tree
rest_of_terms-returns-in_err-tree t c =
    let p = err_from_is_err_and c.from_residual.result c.from_residual.ensures.1 in
    let is = rw c.in-Some.is at c.takes.ensures in
    rw (p.1, p.2) (several_refused _ _ _ _ _ _ _ _ _ c.more.invariant.0 is c.in_err-tree.ensures)

pub rest_of_terms-more-preserved : goal.rest_of_terms-more-preserved
rest_of_terms-more-preserved t c =
    let is = rw c.in-Some.is at c.takes.ensures in
    (several_step _ _ _ _ _ _ _ _ _ _ c.more.invariant.0 c.in_ok-push.ensures.items is c.in_ok-tree.ensures, c.more.invariant.1)

pub rest_of_terms-returns : goal.rest_of_terms-returns
rest_of_terms-returns t c =
    let none = rw c.in_default.is at c.takes.ensures in
    several_end _ _ _ _ c.more.more _ _ _ c.more.invariant.1 c.more.invariant.0 none

pub single-returns-in_err-open : goal.single-returns-in_err-open
single-returns-in_err-open t c =
    let p = err_from_is_err_and c.from_residual.result c.from_residual.ensures.1 in
    rw (p.1, p.2) (single_unopened _ _ _ _ _ c.in_err-open.ensures.reads)

pub single-returns-in_err-first : goal.single-returns-in_err-first
single-returns-in_err-first t c =
    let p = err_from_is_err_and c.from_residual-in_err-first.result c.from_residual-in_err-first.ensures.1 in
    rw (p.1, p.2) (single_term_refused c.args.field _ c.in_ok-open.ensures.room _ _ _ c.in_ok-open.ensures.reads _ _ c.in_err-first.ensures)

pub single-returns-in_err-close : goal.single-returns-in_err-close
single-returns-in_err-close t c =
    let p = err_from_is_err_and c.from_residual-in_err-close.result c.from_residual-in_err-close.ensures.1 in
    rw (p.1, p.2) (single_refused c.args.field _ c.in_ok-open.ensures.room _ _ _ c.in_ok-open.ensures.reads _ _ _ _ c.in_ok-first.ensures c.in_err-close.ensures)

pub single-returns : goal.single-returns
single-returns t c =
    (_, single_found c.args.field _ c.in_ok-open.ensures.room _ _ _ c.in_ok-open.ensures.reads _ _ _ _ c.in_ok-first.ensures c.in_ok-close.ensures, bracketed_of-single_seen _ _ _ c.new-more.result c.new-more.ensures.items)

pub term-returns-in_err-first : goal.term-returns-in_err-first
term-returns-in_err-first t c =
    let p = err_from_is_err_and c.from_residual.result c.from_residual.ensures.1 in
    rw (p.1, p.2) (passes (term_form c.args.field) (rest_of_term c.args.field start) _ run_of _ _ _ _ (begin_term _ _ _) c.in_err-first.ensures)

pub term-returns-in-Some : goal.term-returns-in-Some
term-returns-in-Some t c =
    let h = rw c.in-Some.is at c.in_ok-first.ensures in
    term_from _ _ _ _ _ _ _ _ h c.rest_of_term.ensures

pub term-returns-in-None : goal.term-returns-in-None
term-returns-in-None t c =
    let h = rw c.in-None.is at c.in_ok-first.ensures in
    no_term _ _ _ _ h

pub terms-returns-in_err-first : goal.terms-returns-in_err-first
terms-returns-in_err-first t c =
    let p = err_from_is_err_and c.from_residual.result c.from_residual.ensures.1 in
    rw (p.1, p.2) (passes (terms_form c.args.field) (some_terms c.args.field) _ list_of _ _ _ _ (begin_terms _ _ _) (terms_apart_refuses _ _ _ _ _ c.in_err-first.ensures))

pub terms-returns : goal.terms-returns
terms-returns t c =
    terms_from _ _ _ _ _ _ _ c.in_ok-first.ensures c.rest_of_terms.ensures
