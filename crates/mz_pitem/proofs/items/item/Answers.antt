use Rattle.std.proofs.Common.{◌≡◌, sym, ap, ◌∙◌, Some, None}
use Rattle.std.proofs.lemmas.Result.{err_from_is_err_and}
use Rattle.mz_pcluster.proofs.Joined.{shaped_refused, shaped_found}
use Rattle.mz_ppart.specs.Forms.{notation_form, reserve_form}
use Rattle.mz_pproof.specs.Forms.{statement_form}
use Rattle.mz_pblock.specs.Forms.{registration_form, scheme_form, theorem_form}
use Rattle.mz_pitem.specs.declared.items.ItemWord.TheVariants as item_words
use Rattle.mz_pitem.specs.Classes.{item_next}
use Rattle.mz_pitem.specs.Forms.{definition_form, item_form}
use Rattle.mz_pitem.proofs.ItemSteps.{as_definition, as_notation, as_registration, as_reserve, as_scheme, as_statement, as_theorem, put_definition, put_notation, put_registration, put_reserve, put_scheme, put_statement, put_theorem}
use Rattle.mz_pitem.proofs.items.item.Goals as goal

pub returns-in_err-tree-in-Some-Reserve : goal.returns-in_err-tree-in-Some-Reserve
returns-in_err-tree-in-Some-Reserve c =
    let p = err_from_is_err_and c.from_residual.result c.from_residual.ensures.1 in
    let here : item_next c.args.reader.now.rest.now ≡ Some item_words.Reserve = sym c.item_comes.ensures ∙ (c.in-Some-Reserve.is ∙ ap Some c.in-Some-Reserve.field-0-is) in
    rw (p.1, p.2) (shaped_refused item_form reserve_form put_reserve c.args.room _ (as_reserve _ here) _ _ c.in_err-tree-in-Some-Reserve.ensures)

pub returns-in_ok-tree-in-Some-Reserve : goal.returns-in_ok-tree-in-Some-Reserve
returns-in_ok-tree-in-Some-Reserve c =
    let here : item_next c.args.reader.now.rest.now ≡ Some item_words.Reserve = sym c.item_comes.ensures ∙ (c.in-Some-Reserve.is ∙ ap Some c.in-Some-Reserve.field-0-is) in
    shaped_found item_form reserve_form put_reserve c.args.room _ (as_reserve _ here) _ _ c.in_ok-tree-in-Some-Reserve.ensures

pub returns-in_err-tree-in-Some-Theorem : goal.returns-in_err-tree-in-Some-Theorem
returns-in_err-tree-in-Some-Theorem c =
    let p = err_from_is_err_and c.from_residual-in_err-tree-in-Some-Theorem.result c.from_residual-in_err-tree-in-Some-Theorem.ensures.1 in
    let here : item_next c.args.reader.now.rest.now ≡ Some item_words.Theorem = sym c.item_comes.ensures ∙ (c.in-Some-Theorem.is ∙ ap Some c.in-Some-Theorem.field-0-is) in
    rw (p.1, p.2) (shaped_refused item_form theorem_form put_theorem c.args.room _ (as_theorem _ here) _ _ c.in_err-tree-in-Some-Theorem.ensures)

pub returns-in_ok-tree-in-Some-Theorem : goal.returns-in_ok-tree-in-Some-Theorem
returns-in_ok-tree-in-Some-Theorem c =
    let here : item_next c.args.reader.now.rest.now ≡ Some item_words.Theorem = sym c.item_comes.ensures ∙ (c.in-Some-Theorem.is ∙ ap Some c.in-Some-Theorem.field-0-is) in
    shaped_found item_form theorem_form put_theorem c.args.room _ (as_theorem _ here) _ _ c.in_ok-tree-in-Some-Theorem.ensures

pub returns-in_err-tree-in-Some-Scheme : goal.returns-in_err-tree-in-Some-Scheme
returns-in_err-tree-in-Some-Scheme c =
    let p = err_from_is_err_and c.from_residual-in_err-tree-in-Some-Scheme.result c.from_residual-in_err-tree-in-Some-Scheme.ensures.1 in
    let here : item_next c.args.reader.now.rest.now ≡ Some item_words.Scheme = sym c.item_comes.ensures ∙ (c.in-Some-Scheme.is ∙ ap Some c.in-Some-Scheme.field-0-is) in
    rw (p.1, p.2) (shaped_refused item_form scheme_form put_scheme c.args.room _ (as_scheme _ here) _ _ c.in_err-tree-in-Some-Scheme.ensures)

pub returns-in_ok-tree-in-Some-Scheme : goal.returns-in_ok-tree-in-Some-Scheme
returns-in_ok-tree-in-Some-Scheme c =
    let here : item_next c.args.reader.now.rest.now ≡ Some item_words.Scheme = sym c.item_comes.ensures ∙ (c.in-Some-Scheme.is ∙ ap Some c.in-Some-Scheme.field-0-is) in
    shaped_found item_form scheme_form put_scheme c.args.room _ (as_scheme _ here) _ _ c.in_ok-tree-in-Some-Scheme.ensures

pub returns-in_err-tree-in-Some-Definition : goal.returns-in_err-tree-in-Some-Definition
returns-in_err-tree-in-Some-Definition c =
    let p = err_from_is_err_and c.from_residual-in_err-tree-in-Some-Definition.result c.from_residual-in_err-tree-in-Some-Definition.ensures.1 in
    let here : item_next c.args.reader.now.rest.now ≡ Some item_words.Definition = sym c.item_comes.ensures ∙ (c.in-Some-Definition.is ∙ ap Some c.in-Some-Definition.field-0-is) in
    rw (p.1, p.2) (shaped_refused item_form definition_form put_definition c.args.room _ (as_definition _ here) _ _ c.in_err-tree-in-Some-Definition.ensures)

pub returns-in_ok-tree-in-Some-Definition : goal.returns-in_ok-tree-in-Some-Definition
returns-in_ok-tree-in-Some-Definition c =
    let here : item_next c.args.reader.now.rest.now ≡ Some item_words.Definition = sym c.item_comes.ensures ∙ (c.in-Some-Definition.is ∙ ap Some c.in-Some-Definition.field-0-is) in
    shaped_found item_form definition_form put_definition c.args.room _ (as_definition _ here) _ _ c.in_ok-tree-in-Some-Definition.ensures

pub returns-in_err-tree-in-Some-Notation : goal.returns-in_err-tree-in-Some-Notation
returns-in_err-tree-in-Some-Notation c =
    let p = err_from_is_err_and c.from_residual-in_err-tree-in-Some-Notation.result c.from_residual-in_err-tree-in-Some-Notation.ensures.1 in
    let here : item_next c.args.reader.now.rest.now ≡ Some item_words.Notation = sym c.item_comes.ensures ∙ (c.in-Some-Notation.is ∙ ap Some c.in-Some-Notation.field-0-is) in
    rw (p.1, p.2) (shaped_refused item_form notation_form put_notation c.args.room _ (as_notation _ here) _ _ c.in_err-tree-in-Some-Notation.ensures)

pub returns-in_ok-tree-in-Some-Notation : goal.returns-in_ok-tree-in-Some-Notation
returns-in_ok-tree-in-Some-Notation c =
    let here : item_next c.args.reader.now.rest.now ≡ Some item_words.Notation = sym c.item_comes.ensures ∙ (c.in-Some-Notation.is ∙ ap Some c.in-Some-Notation.field-0-is) in
    shaped_found item_form notation_form put_notation c.args.room _ (as_notation _ here) _ _ c.in_ok-tree-in-Some-Notation.ensures

pub returns-in_err-tree-in-Some-Registration : goal.returns-in_err-tree-in-Some-Registration
returns-in_err-tree-in-Some-Registration c =
    let p = err_from_is_err_and c.from_residual-in_err-tree-in-Some-Registration.result c.from_residual-in_err-tree-in-Some-Registration.ensures.1 in
    let here : item_next c.args.reader.now.rest.now ≡ Some item_words.Registration = sym c.item_comes.ensures ∙ (c.in-Some-Registration.is ∙ ap Some c.in-Some-Registration.field-0-is) in
    rw (p.1, p.2) (shaped_refused item_form registration_form put_registration c.args.room _ (as_registration _ here) _ _ c.in_err-tree-in-Some-Registration.ensures)

pub returns-in_ok-tree-in-Some-Registration : goal.returns-in_ok-tree-in-Some-Registration
returns-in_ok-tree-in-Some-Registration c =
    let here : item_next c.args.reader.now.rest.now ≡ Some item_words.Registration = sym c.item_comes.ensures ∙ (c.in-Some-Registration.is ∙ ap Some c.in-Some-Registration.field-0-is) in
    shaped_found item_form registration_form put_registration c.args.room _ (as_registration _ here) _ _ c.in_ok-tree-in-Some-Registration.ensures

pub returns-in_err-tree-in-None : goal.returns-in_err-tree-in-None
returns-in_err-tree-in-None c =
    let p = err_from_is_err_and c.from_residual-in_err-tree-in-None.result c.from_residual-in_err-tree-in-None.ensures.1 in
    let here : item_next c.args.reader.now.rest.now ≡ None = sym c.item_comes.ensures ∙ c.in-None.is in
    rw (p.1, p.2) (shaped_refused item_form statement_form put_statement c.args.room _ (as_statement _ here) _ _ c.in_err-tree-in-None.ensures)

pub returns-in_ok-tree-in-None : goal.returns-in_ok-tree-in-None
returns-in_ok-tree-in-None c =
    let here : item_next c.args.reader.now.rest.now ≡ None = sym c.item_comes.ensures ∙ c.in-None.is in
    shaped_found item_form statement_form put_statement c.args.room _ (as_statement _ here) _ _ c.in_ok-tree-in-None.ensures
