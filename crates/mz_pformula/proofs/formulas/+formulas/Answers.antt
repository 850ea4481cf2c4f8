use Rattle.std.proofs.Common.{rules, ◌≡◌, ◌<◌, ◌∷◌, ◌∙◌, sym, refl, ap, true, false}
use Rattle.std.proofs.lemmas.Result.{err_from_is_err_and}
use Rattle.mz_tree.specs.Views.{declarations_of, disjunction_of}
use Rattle.mz_tree.proofs.Views.{formula_of-plain, formula_of-implies, formula_of-iff, quantified_of-exists, unit_of-not, unit_of-contradiction, unit_of-thesis, unit_of-quantified, unit_of-group}
use Rattle.mz_pterm.specs.declared.sign.Sign.TheVariants as signs
use Rattle.mz_pterm.specs.Sign.{sign_of}
use Rattle.mz_pterm.proofs.Steps.{is_nil}
use Rattle.mz_patom.specs.Classes.{private_next}
use Rattle.mz_patom.specs.Forms.{opening_form}
use Rattle.mz_pformula.specs.Classes.{begins_quantified}
use Rattle.mz_pformula.specs.Quantified.{quantified_form}
use Rattle.mz_pformula.specs.Inside.{parenthesis_form}
use Rattle.mz_pformula.proofs.Conjunctions.{units_none, units_step, unit_refused, units_end, first_unit_refused, conjunction_from}
use Rattle.mz_pformula.proofs.Disjunctions.{conjunctions_none, conjunctions_step, conjunction_refused, conjunctions_end, first_conjunction_refused, disjunction_from}
use Rattle.mz_pformula.proofs.Conclusions.{disjunction_refused, formula_from, implied_refused, implied_found, equivalent_refused, equivalent_found, plain_found}
use Rattle.mz_pformula.proofs.Quantifiers.{condition_refuses, such_scope_refuses, plain_scope_refuses, such_found, holds_refuses, holds_found, further_refuses, further_found, st_refuses, body_refuses, exists_found}
use Rattle.mz_pformula.proofs.Quantifiers as quantifiers
use Rattle.mz_pformula.proofs.Quantified.{no_quantified, for_refuses, ex_refuses, for_declarations_refuse, universal_given, ex_declarations_refuse, exists_given}
use Rattle.mz_pformula.proofs.Operators.{no_other}
use Rattle.mz_pformula.proofs.Comes.{units_no_room, conjunctions_no_room}
use Rattle.mz_pformula.proofs.Parentheses.{open_refuses, inside_refuses, close_refuses, formula_closed, terms_closed, parenthesis_given}
use Rattle.mz_pformula.proofs.Insides.{opening_refuses, terms_alone, units_refuse, conjunctions_refuse, conclusion_refuses, formula_found}
use Rattle.mz_pformula.proofs.OnlyUnits.{as_unit, no_unit, unit_refuses}
use Rattle.mz_pformula.proofs.Units.{atom_given}
use Rattle.mz_pformula.proofs.Identifiers.{begin_terms}
use Rattle.mz_pformula.proofs.Negations.{no_memory, not_refuses, negated_refuses, negation_found, not_opening_refuses, not_opening_found, contradiction_opened, thesis_opened, predicate_refuses, predicate_opened, private_refuses, private_opened, quantified_unit_found, quantified_given, no_opening}
use Rattle.mz_pformula.proofs.formulas.+formulas.Goals as goal

pub conjunction-returns-in_err-first : goal.conjunction-returns-in_err-first
conjunction-returns-in_err-first t c =
    let p = err_from_is_err_and c.from_residual.result c.from_residual.ensures.1 in
    rw (p.1, p.2) (first_unit_refused c.args.field c.args.room _ _ _ c.in_err-first.ensures)

pub conjunction-returns : goal.conjunction-returns
conjunction-returns t c = conjunction_from c.args.field c.args.room _ _ _ _ _ c.in_ok-first.ensures.0 c.rest_of_conjunction.ensures

pub disjunction-returns-in_err-first : goal.disjunction-returns-in_err-first
disjunction-returns-in_err-first t c =
    let p = err_from_is_err_and c.from_residual.result c.from_residual.ensures.1 in
    rw (p.1, p.2) (first_conjunction_refused c.args.field c.args.room _ _ _ c.in_err-first.ensures)

pub disjunction-returns : goal.disjunction-returns
disjunction-returns t c = disjunction_from c.args.field c.args.room _ _ _ _ _ c.in_ok-first.ensures.0 c.rest_of_disjunction.ensures

pub formula-returns-in_err-first : goal.formula-returns-in_err-first
formula-returns-in_err-first t c =
    let p = err_from_is_err_and c.from_residual.result c.from_residual.ensures.1 in
    rw (p.1, p.2) (disjunction_refused c.args.field c.args.room _ _ _ c.in_err-first.ensures)

pub formula-returns : goal.formula-returns
formula-returns t c = formula_from c.args.field c.args.room _ _ _ _ _ c.in_ok-first.ensures.0 c.rest_of_formula.ensures

pub rest_of_conjunction-more-init : goal.rest_of_conjunction-more-init
rest_of_conjunction-more-init t c = (units_none _ _ _ _ _ c.new-more.ensures.items c.requires, refl)

pub rest_of_conjunction-more-preserved : goal.rest_of_conjunction-more-preserved
rest_of_conjunction-more-preserved t c =
    let taken = rw c.in-Some.is at c.takes.ensures in
    let more : 0 < c.more.left = search rules in
    let found = c.in_ok-tree.ensures in
    (units_step _ _ _ _ _ _ _ _ _ _ _ _ more c.more.invariant.0 c.in_ok-push.ensures.items taken found.0 found.1, c.more.invariant.1)

pub rest_of_conjunction-returns : goal.rest_of_conjunction-returns
rest_of_conjunction-returns t c =
    let none = rw c.in_default.is at c.takes.ensures in
    units_end _ _ _ _ _ c.more.more _ _ _ c.more.invariant.1 c.more.invariant.0 none

pub rest_of_disjunction-more-init : goal.rest_of_disjunction-more-init
rest_of_disjunction-more-init t c = (conjunctions_none _ _ _ _ _ c.new-more.ensures.items c.requires, refl)

pub rest_of_disjunction-more-preserved : goal.rest_of_disjunction-more-preserved
rest_of_disjunction-more-preserved t c =
    let taken = rw c.in-Some.is at c.takes.ensures in
    let more : 0 < c.more.left = search rules in
    let found = c.in_ok-tree.ensures in
    (conjunctions_step _ _ _ _ _ _ _ _ _ _ _ _ more c.more.invariant.0 c.in_ok-push.ensures.items taken found.0 found.1, c.more.invariant.1)

pub rest_of_disjunction-returns : goal.rest_of_disjunction-returns
rest_of_disjunction-returns t c =
    let none = rw c.in_default.is at c.takes.ensures in
    conjunctions_end _ _ _ _ _ c.more.more _ _ _ c.more.invariant.1 c.more.invariant.0 none

pub unit-returns-in_err-opened : goal.unit-returns-in_err-opened
unit-returns-in_err-opened t c =
    let p = err_from_is_err_and c.from_residual.result c.from_residual.ensures.1 in
    rw (p.1, p.2) (unit_refuses c.args.field c.args.room _ _ _ c.in_err-opened.ensures)

pub unit-returns-in-Unit : goal.unit-returns-in-Unit
unit-returns-in-Unit t c =
    let found = rw c.in-Unit.is at c.in_ok-opened.ensures in
    (as_unit c.args.field c.args.room _ _ _ found.0, found.1)

pub unit-returns : goal.unit-returns
unit-returns t c =
    let found = rw c.in-Terms.is at c.in_ok-opened.ensures in
    no_unit c.args.field c.args.room _ _ _ found.0

pub in_parentheses-returns-in_err-opened : goal.in_parentheses-returns-in_err-opened
in_parentheses-returns-in_err-opened t c =
    let p = err_from_is_err_and c.from_residual.result c.from_residual.ensures.1 in
    rw (p.1, p.2) (opening_refuses c.args.field c.args.room _ _ _ c.in_err-opened.ensures)

pub in_parentheses-returns-in-Terms : goal.in_parentheses-returns-in-Terms
in_parentheses-returns-in-Terms t c =
    let found = rw c.in-Terms.is at c.in_ok-opened.ensures in
    terms_alone c.args.field c.args.room _ _ _ found.0

pub in_parentheses-returns-in_err-conjoined-in-Unit : goal.in_parentheses-returns-in_err-conjoined-in-Unit
in_parentheses-returns-in_err-conjoined-in-Unit t c =
    let p = err_from_is_err_and c.from_residual-in_err-conjoined-in-Unit.result c.from_residual-in_err-conjoined-in-Unit.ensures.1 in
    let found = rw c.in-Unit.is at c.in_ok-opened.ensures in
    rw (p.1, p.2) (units_refuse c.args.field c.args.room _ _ _ found.0 _ _ c.in_err-conjoined-in-Unit.ensures)

pub in_parentheses-returns-in_err-disjoined-in-Unit : goal.in_parentheses-returns-in_err-disjoined-in-Unit
in_parentheses-returns-in_err-disjoined-in-Unit t c =
    let p = err_from_is_err_and c.from_residual-in_err-disjoined-in-Unit.result c.from_residual-in_err-disjoined-in-Unit.ensures.1 in
    let found = rw c.in-Unit.is at c.in_ok-opened.ensures in
    rw (p.1, p.2) (conjunctions_refuse c.args.field c.args.room _ _ _ found.0 _ _ c.in_ok-conjoined-in-Unit.ensures.0 _ _ c.in_err-disjoined-in-Unit.ensures)

pub in_parentheses-returns-in_err-formula-in-Unit : goal.in_parentheses-returns-in_err-formula-in-Unit
in_parentheses-returns-in_err-formula-in-Unit t c =
    let p = err_from_is_err_and c.from_residual-in_err-formula-in-Unit.result c.from_residual-in_err-formula-in-Unit.ensures.1 in
    let found = rw c.in-Unit.is at c.in_ok-opened.ensures in
    rw (p.1, p.2) (conclusion_refuses c.args.field c.args.room _ _ _ found.0 _ _ c.in_ok-conjoined-in-Unit.ensures.0 _ _ c.in_ok-disjoined-in-Unit.ensures.0 _ _ c.in_err-formula-in-Unit.ensures)

pub in_parentheses-returns-in_ok-formula-in-Unit : goal.in_parentheses-returns-in_ok-formula-in-Unit
in_parentheses-returns-in_ok-formula-in-Unit t c =
    let found = rw c.in-Unit.is at c.in_ok-opened.ensures in
    formula_found c.args.field c.args.room _ _ _ found.0 _ _ c.in_ok-conjoined-in-Unit.ensures.0 _ _ c.in_ok-disjoined-in-Unit.ensures.0 _ _ c.in_ok-formula-in-Unit.ensures.0

pub parenthesis-returns-in_err-open : goal.parenthesis-returns-in_err-open
parenthesis-returns-in_err-open t c =
    let p = err_from_is_err_and c.from_residual.result c.from_residual.ensures.1 in
    rw (p.1, p.2) (open_refuses c.args.field c.args.room _ _ _ c.in_err-open.ensures.reads)

pub parenthesis-returns-in_err-inside : goal.parenthesis-returns-in_err-inside
parenthesis-returns-in_err-inside t c =
    let p = err_from_is_err_and c.from_residual-in_err-inside.result c.from_residual-in_err-inside.ensures.1 in
    rw (p.1, p.2) (inside_refuses c.args.field c.args.room c.in_ok-open.ensures.room _ _ _ c.in_ok-open.ensures.reads _ _ c.in_err-inside.ensures)

pub parenthesis-returns-in_err-close : goal.parenthesis-returns-in_err-close
parenthesis-returns-in_err-close t c =
    let p = err_from_is_err_and c.from_residual-in_err-close.result c.from_residual-in_err-close.ensures.1 in
    rw (p.1, p.2) (close_refuses c.args.field c.args.room c.in_ok-open.ensures.room _ _ _ c.in_ok-open.ensures.reads _ _ c.in_ok-inside.ensures _ _ c.in_err-close.ensures)

pub parenthesis-returns-in_err-unit-in-Formula : goal.parenthesis-returns-in_err-unit-in-Formula
parenthesis-returns-in_err-unit-in-Formula t c =
    let p = err_from_is_err_and c.from_residual-in_err-unit-in-Formula.result c.from_residual-in_err-unit-in-Formula.ensures.1 in
    rw (p.1, p.2) (no_memory (parenthesis_form c.args.field) c.args.room _ _ _ c.in_err-unit-in-Formula.ensures)

pub parenthesis-returns-in_ok-unit-in-Formula : goal.parenthesis-returns-in_ok-unit-in-Formula
parenthesis-returns-in_ok-unit-in-Formula t c =
    let read = rw c.in-Formula.is at c.in_ok-inside.ensures in
    formula_closed c.args.field c.args.room c.in_ok-open.ensures.room _ _ _ c.in_ok-open.ensures.reads _ _ read _ _ c.in_ok-close.ensures _ c.in_ok-unit-in-Formula.unit (unit_of-group _ _ _) c.in_ok-unit-in-Formula.ensures

pub parenthesis-returns-in-Terms : goal.parenthesis-returns-in-Terms
parenthesis-returns-in-Terms t c =
    let read = rw c.in-Terms.is at c.in_ok-inside.ensures in
    terms_closed c.args.field c.args.room c.in_ok-open.ensures.room _ _ _ c.in_ok-open.ensures.reads _ _ read _ _ c.in_ok-close.ensures _ _ c.behind_group.ensures

pub negation-returns-in_err-place : goal.negation-returns-in_err-place
negation-returns-in_err-place t c =
    let p = err_from_is_err_and c.from_residual.result c.from_residual.ensures.1 in
    rw (p.1, p.2) (not_refuses c.args.field c.args.room _ _ _ c.in_err-place.ensures.reads)

pub negation-returns-in_err-body : goal.negation-returns-in_err-body
negation-returns-in_err-body t c =
    let p = err_from_is_err_and c.from_residual-in_err-body.result c.from_residual-in_err-body.ensures.1 in
    rw (p.1, p.2) (negated_refuses c.args.field c.args.room c.in_ok-place.ensures.room _ _ _ c.in_ok-place.ensures.reads _ _ c.in_err-body.ensures)

pub negation-returns : goal.negation-returns
negation-returns t c =
    negation_found c.args.field c.args.room c.in_ok-place.ensures.room _ _ _ c.in_ok-place.ensures.reads _ _ c.in_ok-body.ensures.0 c.in_ok-body.ensures.1 _ (unit_of-not _ _) _ c.boxed.ensures

pub quantified_unit-returns-in_err-quantified : goal.quantified_unit-returns-in_err-quantified
quantified_unit-returns-in_err-quantified t c =
    let p = err_from_is_err_and c.from_residual.result c.from_residual.ensures.1 in
    rw (p.1, p.2) c.in_err-quantified.ensures

pub quantified_unit-returns-in_err-unit : goal.quantified_unit-returns-in_err-unit
quantified_unit-returns-in_err-unit t c =
    let p = err_from_is_err_and c.from_residual-in_err-unit.result c.from_residual-in_err-unit.ensures.1 in
    rw (p.1, p.2) (no_memory (quantified_form c.args.field) c.args.room _ _ _ c.in_err-unit.ensures)

pub quantified_unit-returns : goal.quantified_unit-returns
quantified_unit-returns t c = quantified_unit_found c.args.field c.args.room _ _ _ _ c.in_ok-unit.unit c.in_ok-quantified.ensures (unit_of-quantified _) c.in_ok-unit.ensures

pub quantified-returns-in_default : goal.quantified-returns-in_default
quantified-returns-in_default t c = no_quantified c.args.field c.args.room _ (is_nil _ (search rules))

pub quantified-returns-in_err-place : goal.quantified-returns-in_err-place
quantified-returns-in_err-place t c =
    let p = err_from_is_err_and c.from_residual.result c.from_residual.ensures.1 in
    let e : c.args.reader.now.rest.now ≡ c.in-Some.next.now ∷ c.in-Some.field-0-1.now = search rules in
    let told : c.of.result ≡ signs.Ex = search rules in
    rw (p.1, p.2) (ex_refuses c.args.field c.args.room c.in-Some.next.now _ _ _ _ (sym c.of.ensures ∙ told) e c.in_err-place.ensures.reads)

pub quantified-returns-in_err-declared : goal.quantified-returns-in_err-declared
quantified-returns-in_err-declared t c =
    let p = err_from_is_err_and c.from_residual-in_err-declared.result c.from_residual-in_err-declared.ensures.1 in
    let e : c.args.reader.now.rest.now ≡ c.in-Some.next.now ∷ c.in-Some.field-0-1.now = search rules in
    let told : c.of.result ≡ signs.Ex = search rules in
    rw (p.1, p.2) (ex_declarations_refuse c.args.field c.args.room c.in_ok-place.ensures.room c.in-Some.next.now _ _ e _ _ (sym c.of.ensures ∙ told) c.in_ok-place.ensures.reads _ _ c.in_err-declared.ensures)

pub quantified-returns-then-is : goal.quantified-returns-then-is
quantified-returns-then-is t c =
    let e : c.args.reader.now.rest.now ≡ c.in-Some.next.now ∷ c.in-Some.field-0-1.now = search rules in
    let told : c.of.result ≡ signs.Ex = search rules in
    exists_given c.args.field c.args.room c.in_ok-place.ensures.room c.in-Some.next.now _ _ e _ _ (sym c.of.ensures ∙ told) c.in_ok-place.ensures.reads _ _ _ _ c.in_ok-declared.ensures c.exists.ensures

pub quantified-returns-in_err-place-2 : goal.quantified-returns-in_err-place-2
quantified-returns-in_err-place-2 t c =
    let p = err_from_is_err_and c.from_residual-in_err-place-2.result c.from_residual-in_err-place-2.ensures.1 in
    let e : c.args.reader.now.rest.now ≡ c.in-Some.next.now ∷ c.in-Some.field-0-1.now = search rules in
    let other : c.of.result ≡ signs.Ex → ⊥ = search rules in
    rw (p.1, p.2) (for_refuses c.args.field c.args.room c.in-Some.next.now _ _ _ _ (λ z. other (c.of.ensures ∙ z)) e c.in_err-place-2.ensures.reads)

pub quantified-returns-in_err-declared-2 : goal.quantified-returns-in_err-declared-2
quantified-returns-in_err-declared-2 t c =
    let p = err_from_is_err_and c.from_residual-in_err-declared-2.result c.from_residual-in_err-declared-2.ensures.1 in
    let e : c.args.reader.now.rest.now ≡ c.in-Some.next.now ∷ c.in-Some.field-0-1.now = search rules in
    let other : c.of.result ≡ signs.Ex → ⊥ = search rules in
    rw (p.1, p.2) (for_declarations_refuse c.args.field c.args.room c.in_ok-place-2.ensures.room c.in-Some.next.now _ _ e _ _ (λ z. other (c.of.ensures ∙ z)) c.in_ok-place-2.ensures.reads _ _ c.in_err-declared-2.ensures)

pub quantified-returns : goal.quantified-returns
quantified-returns t c =
    let e : c.args.reader.now.rest.now ≡ c.in-Some.next.now ∷ c.in-Some.field-0-1.now = search rules in
    let other : c.of.result ≡ signs.Ex → ⊥ = search rules in
    universal_given c.args.field c.args.room c.in_ok-place-2.ensures.room c.in-Some.next.now _ _ e _ _ (λ z. other (c.of.ensures ∙ z)) c.in_ok-place-2.ensures.reads _ _ _ _ c.in_ok-declared-2.ensures c.universal.ensures

pub exists-returns-in_err-such : goal.exists-returns-in_err-such
exists-returns-in_err-such t c =
    let p = err_from_is_err_and c.from_residual.result c.from_residual.ensures.1 in
    rw (p.1, p.2) (st_refuses c.args.field c.args.room _ _ _ c.in_err-such.ensures)

pub exists-returns-in_err-body : goal.exists-returns-in_err-body
exists-returns-in_err-body t c =
    let p = err_from_is_err_and c.from_residual-in_err-body.result c.from_residual-in_err-body.ensures.1 in
    rw (p.1, p.2) (body_refuses c.args.field c.args.room _ _ _ _ _ c.in_ok-such.ensures c.in_err-body.ensures)

pub exists-returns : goal.exists-returns
exists-returns t c = exists_found c.args.field c.args.room c.args.place (declarations_of c.args.declared) _ _ _ _ _ _ _ c.in_ok-such.ensures c.in_ok-body.ensures.0 c.in_ok-body.ensures.1 (quantified_of-exists _ _ _ _) c.boxed_quantified.ensures

pub universal-returns-in_err-condition-in-Some : goal.universal-returns-in_err-condition-in-Some
universal-returns-in_err-condition-in-Some t c =
    let p = err_from_is_err_and c.from_residual.result c.from_residual.ensures.1 in
    let taken = rw c.in-Some.is at c.takes.ensures in
    rw (p.1, p.2) (condition_refuses c.args.field c.args.room _ _ _ _ _ taken c.in_err-condition-in-Some.ensures)

pub universal-returns-in_err-scope-in-Some : goal.universal-returns-in_err-scope-in-Some
universal-returns-in_err-scope-in-Some t c =
    let p = err_from_is_err_and c.from_residual-in_err-scope-in-Some.result c.from_residual-in_err-scope-in-Some.ensures.1 in
    let taken = rw c.in-Some.is at c.takes.ensures in
    rw (p.1, p.2) (such_scope_refuses c.args.field c.args.room _ _ _ _ _ _ _ taken c.in_ok-condition-in-Some.ensures.0 c.in_err-scope-in-Some.ensures)

pub universal-returns-in_ok-scope-in-Some : goal.universal-returns-in_ok-scope-in-Some
universal-returns-in_ok-scope-in-Some t c =
    let taken = rw c.in-Some.is at c.takes.ensures in
    such_found c.args.field c.args.room c.args.place (declarations_of c.args.declared) _ _ _ _ _ _ _ _ _ taken c.in_ok-condition-in-Some.ensures.0 c.in_ok-scope-in-Some.ensures c.with_condition.ensures c.boxed_quantified.ensures

pub universal-returns-in_err-scope-in-None : goal.universal-returns-in_err-scope-in-None
universal-returns-in_err-scope-in-None t c =
    let p = err_from_is_err_and c.from_residual-in_err-scope-in-None.result c.from_residual-in_err-scope-in-None.ensures.1 in
    let none = rw c.in-None.is at c.takes.ensures in
    rw (p.1, p.2) (plain_scope_refuses c.args.field c.args.room _ _ _ _ none c.in_err-scope-in-None.ensures)

pub universal-returns-in_ok-scope-in-None : goal.universal-returns-in_ok-scope-in-None
universal-returns-in_ok-scope-in-None t c =
    let none = rw c.in-None.is at c.takes.ensures in
    quantifiers.plain_found c.args.field c.args.room c.args.place (declarations_of c.args.declared) _ _ _ _ _ _ none c.in_ok-scope-in-None.ensures c.with_scope.ensures c.boxed_quantified-in-None.ensures

pub read_scope-returns-in_err-body : goal.read_scope-returns-in_err-body
read_scope-returns-in_err-body t c =
    let p = err_from_is_err_and c.from_residual.result c.from_residual.ensures.1 in
    let taken = rw c.in-Some.is at c.takes.ensures in
    rw (p.1, p.2) (holds_refuses c.args.field c.args.room _ _ _ _ _ taken c.in_err-body.ensures)

pub read_scope-returns-in-Some : goal.read_scope-returns-in-Some
read_scope-returns-in-Some t c =
    let taken = rw c.in-Some.is at c.takes.ensures in
    holds_found c.args.field c.args.room _ _ _ _ _ taken c.in_ok-body.ensures.0 c.in_ok-body.ensures.1

pub read_scope-returns-in_err-further : goal.read_scope-returns-in_err-further
read_scope-returns-in_err-further t c =
    let p = err_from_is_err_and c.from_residual-in_err-further.result c.from_residual-in_err-further.ensures.1 in
    let none = rw c.in_default.is at c.takes.ensures in
    rw (p.1, p.2) (further_refuses c.args.field c.args.room _ _ _ _ none c.in_err-further.ensures)

pub read_scope-returns : goal.read_scope-returns
read_scope-returns t c =
    let none = rw c.in_default.is at c.takes.ensures in
    further_found c.args.field c.args.room _ _ _ _ none c.in_ok-further.ensures.0 c.in_ok-further.ensures.1

pub rest_of_formula-returns-in_err-second : goal.rest_of_formula-returns-in_err-second
rest_of_formula-returns-in_err-second t c =
    let p = err_from_is_err_and c.from_residual.result c.from_residual.ensures.1 in
    let taken = rw c.in-Some.is at c.takes.ensures in
    rw (p.1, p.2) (implied_refused c.args.field (disjunction_of c.args.first) c.args.room _ _ _ _ _ c.requires taken c.in_err-second.ensures)

pub rest_of_formula-returns-in-Some : goal.rest_of_formula-returns-in-Some
rest_of_formula-returns-in-Some t c =
    let taken = rw c.in-Some.is at c.takes.ensures in
    implied_found c.args.field (disjunction_of c.args.first) (disjunction_of c.in_ok-second.second) c.args.room _ _ _ _ _ _ c.requires taken c.in_ok-second.ensures.0 c.in_ok-second.ensures.1 (formula_of-implies _ _ _) c.boxed_formula.ensures

pub rest_of_formula-returns-in_err-second-2 : goal.rest_of_formula-returns-in_err-second-2
rest_of_formula-returns-in_err-second-2 t c =
    let p = err_from_is_err_and c.from_residual-in_err-second-2.result c.from_residual-in_err-second-2.ensures.1 in
    let none = rw c.in_default.is at c.takes.ensures in
    let taken = rw c.in-Some-takes.is at c.takes-2.ensures in
    rw (p.1, p.2) (equivalent_refused c.args.field (disjunction_of c.args.first) c.args.room _ _ _ _ _ c.requires (none.0 ∙ taken) c.in_err-second-2.ensures)

pub rest_of_formula-returns-in-Some-takes : goal.rest_of_formula-returns-in-Some-takes
rest_of_formula-returns-in-Some-takes t c =
    let none = rw c.in_default.is at c.takes.ensures in
    let taken = rw c.in-Some-takes.is at c.takes-2.ensures in
    equivalent_found c.args.field (disjunction_of c.args.first) (disjunction_of c.in_ok-second-2.second) c.args.room _ _ _ _ _ _ c.requires (none.0 ∙ taken) c.in_ok-second-2.ensures.0 c.in_ok-second-2.ensures.1 (formula_of-iff _ _ _) c.boxed_formula-in-Some-takes.ensures

pub rest_of_formula-returns : goal.rest_of_formula-returns
rest_of_formula-returns t c =
    let none = rw c.in_default.is at c.takes.ensures in
    let neither = rw c.in_default-takes.is at c.takes-2.ensures in
    plain_found c.args.field (disjunction_of c.args.first) c.args.room _ _ _ _ _ c.requires none neither (formula_of-plain _) c.boxed_formula-2.ensures

pub rest_of_conjunction-returns-then-left-eq0 : goal.rest_of_conjunction-returns-then-left-eq0
rest_of_conjunction-returns-then-left-eq0 t c =
    let taken = rw c.in-Some.is at c.takes.ensures in
    let z : c.more.left ≡ 0 = search rules in
    units_no_room _ _ _ _ _ _ _ _ _ _ z c.more.invariant.0 taken c.no_room.ensures

pub rest_of_conjunction-returns-in_err-tree : goal.rest_of_conjunction-returns-in_err-tree
rest_of_conjunction-returns-in_err-tree t c =
    let p = err_from_is_err_and c.from_residual.result c.from_residual.ensures.1 in
    let taken = rw c.in-Some.is at c.takes.ensures in
    let more : 0 < c.more.left = search rules in
    rw (p.1, p.2) (unit_refused _ _ _ _ _ _ _ _ _ _ _ more c.more.invariant.0 taken c.in_err-tree.ensures)

pub rest_of_disjunction-returns-then-left-eq0 : goal.rest_of_disjunction-returns-then-left-eq0
rest_of_disjunction-returns-then-left-eq0 t c =
    let taken = rw c.in-Some.is at c.takes.ensures in
    let z : c.more.left ≡ 0 = search rules in
    conjunctions_no_room _ _ _ _ _ _ _ _ _ _ z c.more.invariant.0 taken c.no_room.ensures

pub rest_of_disjunction-returns-in_err-tree : goal.rest_of_disjunction-returns-in_err-tree
rest_of_disjunction-returns-in_err-tree t c =
    let p = err_from_is_err_and c.from_residual.result c.from_residual.ensures.1 in
    let taken = rw c.in-Some.is at c.takes.ensures in
    let more : 0 < c.more.left = search rules in
    rw (p.1, p.2) (conjunction_refused _ _ _ _ _ _ _ _ _ _ _ more c.more.invariant.0 taken c.in_err-tree.ensures)

pub opening-returns-in_default : goal.opening-returns-in_default
opening-returns-in_default t c = no_opening c.args.field c.args.room _ (is_nil _ (search rules))

pub opening-returns-in_err-unit-in-Not : goal.opening-returns-in_err-unit-in-Not
opening-returns-in_err-unit-in-Not t c =
    let p = err_from_is_err_and c.from_residual.result c.from_residual.ensures.1 in
    let e : c.args.reader.now.rest.now ≡ c.in-Some.next.now ∷ c.in-Some.rest.now = search rules in
    let h : sign_of c.in-Some.next.now ≡ signs.Not = sym c.of.ensures ∙ c.in-Not.is in
    rw (p.1, p.2) (not_opening_refuses c.args.field c.args.room c.in-Some.next.now _ _ _ _ h e c.in_err-unit-in-Not.ensures)

pub opening-returns-in_ok-unit-in-Not : goal.opening-returns-in_ok-unit-in-Not
opening-returns-in_ok-unit-in-Not t c =
    let e : c.args.reader.now.rest.now ≡ c.in-Some.next.now ∷ c.in-Some.rest.now = search rules in
    let h : sign_of c.in-Some.next.now ≡ signs.Not = sym c.of.ensures ∙ c.in-Not.is in
    not_opening_found c.args.field c.args.room c.in-Some.next.now _ _ _ c.in_ok-unit-in-Not.unit h e c.in_ok-unit-in-Not.ensures

pub opening-returns-in-For : goal.opening-returns-in-For
opening-returns-in-For t c =
    let e : c.args.reader.now.rest.now ≡ c.in-Some.next.now ∷ c.in-Some.rest.now = search rules in
    let h : sign_of c.in-Some.next.now ≡ signs.For = sym c.of.ensures ∙ c.in-For.is in
    quantified_given c.args.field c.args.room c.in-Some.next.now _ _ _ _ (ap begins_quantified h) e c.quantified_unit.ensures

pub opening-returns-in-Ex : goal.opening-returns-in-Ex
opening-returns-in-Ex t c =
    let e : c.args.reader.now.rest.now ≡ c.in-Some.next.now ∷ c.in-Some.rest.now = search rules in
    let h : sign_of c.in-Some.next.now ≡ signs.Ex = sym c.of.ensures ∙ c.in-Ex.is in
    quantified_given c.args.field c.args.room c.in-Some.next.now _ _ _ _ (ap begins_quantified h) e c.quantified_unit-in-Ex.ensures

pub opening-returns-in_err-unit-in-Contradiction : goal.opening-returns-in_err-unit-in-Contradiction
opening-returns-in_err-unit-in-Contradiction t c =
    let p = err_from_is_err_and c.from_residual-in_err-unit-in-Contradiction.result c.from_residual-in_err-unit-in-Contradiction.ensures.1 in
    rw (p.1, p.2) (no_memory (opening_form c.args.field) c.args.room _ _ _ c.in_err-unit-in-Contradiction.ensures)

pub opening-returns-in_ok-unit-in-Contradiction : goal.opening-returns-in_ok-unit-in-Contradiction
opening-returns-in_ok-unit-in-Contradiction t c =
    let e : c.args.reader.now.rest.now ≡ c.in-Some.next.now ∷ c.in-Some.rest.now = search rules in
    let h : sign_of c.in-Some.next.now ≡ signs.Contradiction = sym c.of.ensures ∙ c.in-Contradiction.is in
    contradiction_opened c.args.field c.args.room c.in-Some.next.now _ _ _ c.in_ok-unit-in-Contradiction.unit h e (unit_of-contradiction _) c.in_ok-unit-in-Contradiction.ensures

pub opening-returns-in_err-unit-in-Thesis : goal.opening-returns-in_err-unit-in-Thesis
opening-returns-in_err-unit-in-Thesis t c =
    let p = err_from_is_err_and c.from_residual-in_err-unit-in-Thesis.result c.from_residual-in_err-unit-in-Thesis.ensures.1 in
    rw (p.1, p.2) (no_memory (opening_form c.args.field) c.args.room _ _ _ c.in_err-unit-in-Thesis.ensures)

pub opening-returns-in_ok-unit-in-Thesis : goal.opening-returns-in_ok-unit-in-Thesis
opening-returns-in_ok-unit-in-Thesis t c =
    let e : c.args.reader.now.rest.now ≡ c.in-Some.next.now ∷ c.in-Some.rest.now = search rules in
    let h : sign_of c.in-Some.next.now ≡ signs.Thesis = sym c.of.ensures ∙ c.in-Thesis.is in
    thesis_opened c.args.field c.args.room c.in-Some.next.now _ _ _ c.in_ok-unit-in-Thesis.unit h e (unit_of-thesis _) c.in_ok-unit-in-Thesis.ensures

pub opening-returns-in-Open : goal.opening-returns-in-Open
opening-returns-in-Open t c =
    let e : c.args.reader.now.rest.now ≡ c.in-Some.next.now ∷ c.in-Some.rest.now = search rules in
    let h : sign_of c.in-Some.next.now ≡ signs.Open = sym c.of.ensures ∙ c.in-Open.is in
    parenthesis_given c.args.field c.args.room c.in-Some.next.now _ _ _ _ h e c.parenthesis.ensures

pub opening-returns-in_err-unit-in-Predicate : goal.opening-returns-in_err-unit-in-Predicate
opening-returns-in_err-unit-in-Predicate t c =
    let p = err_from_is_err_and c.from_residual-in_err-unit-in-Predicate.result c.from_residual-in_err-unit-in-Predicate.ensures.1 in
    let e : c.args.reader.now.rest.now ≡ c.in-Some.next.now ∷ c.in-Some.rest.now = search rules in
    let h : sign_of c.in-Some.next.now ≡ signs.Predicate = sym c.of.ensures ∙ c.in-Predicate.is in
    rw (p.1, p.2) (predicate_refuses c.args.field c.args.room c.in-Some.next.now _ _ _ _ h e c.in_err-unit-in-Predicate.ensures)

pub opening-returns-in_ok-unit-in-Predicate : goal.opening-returns-in_ok-unit-in-Predicate
opening-returns-in_ok-unit-in-Predicate t c =
    let e : c.args.reader.now.rest.now ≡ c.in-Some.next.now ∷ c.in-Some.rest.now = search rules in
    let h : sign_of c.in-Some.next.now ≡ signs.Predicate = sym c.of.ensures ∙ c.in-Predicate.is in
    predicate_opened c.args.field c.args.room c.in-Some.next.now _ _ _ c.in_ok-unit-in-Predicate.unit h e c.in_ok-unit-in-Predicate.ensures

pub opening-returns-in_err-unit-in_default-of : goal.opening-returns-in_err-unit-in_default-of
opening-returns-in_err-unit-in_default-of t c =
    let p = err_from_is_err_and c.from_residual-in_err-unit-in_default-of.result c.from_residual-in_err-unit-in_default-of.ensures.1 in
    let on : private_next c.args.reader.now.rest.now ≡ true = search rules in
    rw (p.1, p.2) (private_refuses c.args.field c.args.room _ _ _ on c.in_err-unit-in_default-of.ensures)

pub opening-returns-then-private_comes : goal.opening-returns-then-private_comes
opening-returns-then-private_comes t c =
    let on : private_next c.args.reader.now.rest.now ≡ true = search rules in
    private_opened c.args.field c.args.room _ _ c.in_ok-unit-in_default-of.unit on c.in_ok-unit-in_default-of.ensures

pub opening-returns-else-private_comes : goal.opening-returns-else-private_comes
opening-returns-else-private_comes t c =
    let e : c.args.reader.now.rest.now ≡ c.in-Some.next.now ∷ c.in-Some.rest.now = search rules in
    let off : private_next c.args.reader.now.rest.now ≡ false = search rules in
    let s = c.of.ensures in
    let d = c.in_default-of in
    let other = no_other (sign_of c.in-Some.next.now) (λ h. d.not-Not (s ∙ h)) (λ h. d.not-For (s ∙ h)) (λ h. d.not-Ex (s ∙ h)) (λ h. d.not-Contradiction (s ∙ h)) (λ h. d.not-Thesis (s ∙ h)) (λ h. d.not-Open (s ∙ h)) (λ h. d.not-Predicate (s ∙ h)) in
    atom_given c.args.field c.args.room _ _ _ (begin_terms c.args.field c.args.room c.in-Some.next.now _ _ other off e) c.atom.ensures
