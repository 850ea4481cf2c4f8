use Rattle.std.proofs.Common.{rules, ◌≡◌, length, ◌∷◌, ◌∙◌, sym, refl, true, false}
use Rattle.std.proofs.lemmas.Result.{err_from_is_err_and}
use Rattle.mz_tree.specs.Views.{terms_of}
use Rattle.mz_pterm.specs.declared.sign.Sign.TheVariants as signs
use Rattle.mz_pterm.specs.Sign.{sign_of}
use Rattle.mz_pterm.proofs.Steps.{is_nil}
use Rattle.mz_patom.specs.Forms.{tail, is_single}
use Rattle.mz_patom.proofs.Tails.{tail_lacks, tail_at_end, relates_found, relates_refused, is_found, is_refused, no_tail_found, symbol_unread, several_found}
use Rattle.mz_patom.proofs.atoms.tail.Goals as goal

pub returns-in_default : goal.returns-in_default
returns-in_default c =
    let none : length c.args.reader.now.rest.now ≡ 0 = search rules in
    no_tail_found c.args.field c.args.room (terms_of c.args.terms) _ _ refl (tail_at_end c.args.field (terms_of c.args.terms) c.args.room _ (is_nil _ none))

pub returns-in_err-symbol-in-Predicate : goal.returns-in_err-symbol-in-Predicate
returns-in_err-symbol-in-Predicate c =
    let p = err_from_is_err_and c.from_residual.result c.from_residual.ensures.1 in
    let e : c.args.reader.now.rest.now ≡ c.in-Some.next.now ∷ c.in-Some.rest.now = search rules in
    let h : sign_of c.in-Some.next.now ≡ signs.Predicate = sym c.of.ensures ∙ c.in-Predicate.is in
    rw (p.1, p.2) (symbol_unread c.args.field c.args.room (terms_of c.args.terms) _ _ _ _ _ h e c.in_err-symbol-in-Predicate.ensures)

pub returns-in_err-unit-in-Predicate : goal.returns-in_err-unit-in-Predicate
returns-in_err-unit-in-Predicate c =
    let p = err_from_is_err_and c.from_residual-in_err-unit-in-Predicate.result c.from_residual-in_err-unit-in-Predicate.ensures.1 in
    rw (p.1, p.2) (relates_refused c.args.field c.args.room (terms_of c.args.terms) _ _ _ _ _ c.in_ok-symbol-in-Predicate.ensures c.in_err-unit-in-Predicate.ensures)

pub returns-in_ok-unit-in-Predicate : goal.returns-in_ok-unit-in-Predicate
returns-in_ok-unit-in-Predicate c = relates_found c.args.field c.args.room (terms_of c.args.terms) _ _ _ _ c.in_ok-unit-in-Predicate.unit c.in_ok-symbol-in-Predicate.ensures c.in_ok-unit-in-Predicate.ensures

pub returns-in_err-unit-in-Ok : goal.returns-in_err-unit-in-Ok
returns-in_err-unit-in-Ok c =
    let p = err_from_is_err_and c.from_residual-in_err-unit-in-Ok.result c.from_residual-in_err-unit-in-Ok.ensures.1 in
    let e : c.args.reader.now.rest.now ≡ c.in-Some.next.now ∷ c.in-Some.rest.now = search rules in
    let h : sign_of c.in-Some.next.now ≡ signs.Is = sym c.of.ensures ∙ c.in-Is.is in
    let one = rw c.in-Ok.is at c.only_term.ensures in
    rw (p.1, p.2) (is_refused c.args.field c.args.room (terms_of c.args.terms) _ c.in-Some.next.now _ _ _ _ one h e c.in_err-unit-in-Ok.ensures)

pub returns-in_ok-unit-in-Ok : goal.returns-in_ok-unit-in-Ok
returns-in_ok-unit-in-Ok c =
    let e : c.args.reader.now.rest.now ≡ c.in-Some.next.now ∷ c.in-Some.rest.now = search rules in
    let h : sign_of c.in-Some.next.now ≡ signs.Is = sym c.of.ensures ∙ c.in-Is.is in
    let one = rw c.in-Ok.is at c.only_term.ensures in
    is_found c.args.field c.args.room (terms_of c.args.terms) _ c.in-Some.next.now _ _ _ c.in_ok-unit-in-Ok.unit one h e c.in_ok-unit-in-Ok.ensures

pub returns-in-Err : goal.returns-in-Err
returns-in-Err c =
    let e : c.args.reader.now.rest.now ≡ c.in-Some.next.now ∷ c.in-Some.rest.now = search rules in
    let h : sign_of c.in-Some.next.now ≡ signs.Is = sym c.of.ensures ∙ c.in-Is.is in
    let several = rw c.in-Err.is at c.only_term.ensures in
    several_found c.args.field c.args.room (terms_of c.args.terms) _ c.in-Some.next.now _ _ several.0 several.1 h e

pub returns-in_default-of : goal.returns-in_default-of
returns-in_default-of c =
    let e : c.args.reader.now.rest.now ≡ c.in-Some.next.now ∷ c.in-Some.rest.now = search rules in
    let s = c.of.ensures in
    no_tail_found c.args.field c.args.room (terms_of c.args.terms) _ _ refl (tail_lacks c.args.field (terms_of c.args.terms) c.args.room c.in-Some.next.now _ _ (λ h. c.in_default-of.not-Predicate (s ∙ h)) (λ h one. c.in_default-of.not-Is (s ∙ h)) e)
