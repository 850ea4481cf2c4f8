use Rattle.std.proofs.Common.{rules, refl, sym, ap, ◌≡◌, ◌∙◌, true, false}
use Rattle.std.proofs.lemmas.Result.{err_from_is_err_and}
use Rattle.mz_base.specs.declared.place.Place.{Place}
use Rattle.mz_forms.proofs.Words.{word_in_any, word_refuses}
use Rattle.mz_tree.specs.Rules.{ends_in_terms}
use Rattle.mz_tree.specs.Views.{type_of}
use Rattle.mz_ppattern.specs.Words.{arrow_token}
use Rattle.mz_ppart.proofs.ReserveSteps.{parameter_unread, square_refused, square_types_refused, square_found, round_refused, round_types_refused, arrow_refused, round_type_refused, round_found}
use Rattle.mz_ppart.proofs.reserves.parameter.Goals as goal

pub returns-in_err-identifiers : goal.returns-in_err-identifiers
returns-in_err-identifiers c =
    let p = err_from_is_err_and c.from_residual.result c.from_residual.ensures.1 in
    rw (p.1, p.2) (parameter_unread c.args.room _ _ _ (c.in_err-identifiers.ensures c.args.room))

pub returns-in_err-left : goal.returns-in_err-left
returns-in_err-left c =
    let p = err_from_is_err_and c.from_residual-in_err-left.result c.from_residual-in_err-left.ensures.1 in
    let yes : c.square_comes.result ≡ true = search rules in
    rw (p.1, p.2) (square_refused c.args.room _ _ _ (c.in_ok-identifiers.ensures c.args.room) (sym c.square_comes.ensures ∙ yes) _ _ c.in_err-left.ensures.reads)

pub returns-in_err-types : goal.returns-in_err-types
returns-in_err-types c =
    let p = err_from_is_err_and c.from_residual-in_err-types.result c.from_residual-in_err-types.ensures.1 in
    let yes : c.square_comes.result ≡ true = search rules in
    rw (p.1, p.2) (square_types_refused c.args.room _ _ _ (c.in_ok-identifiers.ensures c.args.room) (sym c.square_comes.ensures ∙ yes) _ _ c.in_ok-left.ensures.reads _ _ c.in_err-types.ensures)

pub returns-then-square_comes : goal.returns-then-square_comes
returns-then-square_comes c =
    let yes : c.square_comes.result ≡ true = search rules in
    (square_found c.args.room _ _ _ (c.in_ok-identifiers.ensures c.args.room) (sym c.square_comes.ensures ∙ yes) _ _ c.in_ok-left.ensures.reads _ _ c.in_ok-types.ensures, refl)

pub returns-in_err-left-2 : goal.returns-in_err-left-2
returns-in_err-left-2 c =
    let p = err_from_is_err_and c.from_residual-in_err-left-2.result c.from_residual-in_err-left-2.ensures.1 in
    let no : c.square_comes.result ≡ false = search rules in
    rw (p.1, p.2) (round_refused c.args.room _ _ _ (c.in_ok-identifiers.ensures c.args.room) (sym c.square_comes.ensures ∙ no) _ _ c.in_err-left-2.ensures.reads)

pub returns-in_err-types-2 : goal.returns-in_err-types-2
returns-in_err-types-2 c =
    let p = err_from_is_err_and c.from_residual-in_err-types-2.result c.from_residual-in_err-types-2.ensures.1 in
    let no : c.square_comes.result ≡ false = search rules in
    rw (p.1, p.2) (round_types_refused c.args.room _ _ _ (c.in_ok-identifiers.ensures c.args.room) (sym c.square_comes.ensures ∙ no) _ _ c.in_ok-left-2.ensures.reads _ _ c.in_err-types-2.ensures)

pub returns-in_err-arrow : goal.returns-in_err-arrow
returns-in_err-arrow c =
    let p = err_from_is_err_and c.from_residual-in_err-arrow.result c.from_residual-in_err-arrow.ensures.1 in
    let no : c.square_comes.result ≡ false = search rules in
    rw (p.1, p.2) (arrow_refused c.args.room _ _ _ (c.in_ok-identifiers.ensures c.args.room) (sym c.square_comes.ensures ∙ no) _ _ c.in_ok-left-2.ensures.reads _ _ c.in_ok-types-2.ensures _ _ (word_refuses Place arrow_token c.args.room _ _ _ c.in_err-arrow.ensures))

pub returns-in_err-node : goal.returns-in_err-node
returns-in_err-node c =
    let p = err_from_is_err_and c.from_residual-in_err-node.result c.from_residual-in_err-node.ensures.1 in
    let no : c.square_comes.result ≡ false = search rules in
    rw (p.1, p.2) (round_type_refused c.args.room _ _ _ (c.in_ok-identifiers.ensures c.args.room) (sym c.square_comes.ensures ∙ no) _ _ c.in_ok-left-2.ensures.reads _ _ c.in_ok-types-2.ensures _ _ (word_in_any Place arrow_token c.args.room _ _ _ c.in_ok-arrow.ensures) _ _ c.in_err-node.ensures)

pub returns : goal.returns
returns c =
    let no : c.square_comes.result ≡ false = search rules in
    let same : c.deref.result.now ≡ c.in_ok-node.node.value = search rules in
    let ends = c.type_ends_in_terms-behind_terms.ensures ∙ ap (λ z. ends_in_terms (type_of z)) same in
    rw c.from_node-ty.ensures (round_found c.args.room _ _ _ (c.in_ok-identifiers.ensures c.args.room) (sym c.square_comes.ensures ∙ no) _ _ c.in_ok-left-2.ensures.reads _ _ c.in_ok-types-2.ensures _ _ (word_in_any Place arrow_token c.args.room _ _ _ c.in_ok-arrow.ensures) _ _ c.in_ok-node.ensures, ends)
