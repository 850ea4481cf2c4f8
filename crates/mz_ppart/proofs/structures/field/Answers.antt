use Rattle.std.proofs.Common.{rules, ◌≡◌, ◌∙◌, ap}
use Rattle.std.proofs.lemmas.Result.{err_from_is_err_and}
use Rattle.mz_base.specs.declared.place.Place.{Place}
use Rattle.mz_forms.proofs.Words.{word_in_any, word_refuses}
use Rattle.mz_tree.specs.Rules.{ends_in_terms}
use Rattle.mz_tree.specs.Views.{type_of}
use Rattle.mz_ppattern.specs.Words.{arrow_token}
use Rattle.mz_ppart.proofs.StructureSequences.{field_refused_1, field_refused_2, field_refused_3, field_found}
use Rattle.mz_ppart.proofs.structures.field.Goals as goal

pub returns-in_err-selectors : goal.returns-in_err-selectors
returns-in_err-selectors c =
    let p = err_from_is_err_and c.from_residual.result c.from_residual.ensures.1 in
    rw (p.1, p.2) (field_refused_1 c.args.room _ _ _ (c.in_err-selectors.ensures c.args.room))

pub returns-in_err-arrow : goal.returns-in_err-arrow
returns-in_err-arrow c =
    let p = err_from_is_err_and c.from_residual-in_err-arrow.result c.from_residual-in_err-arrow.ensures.1 in
    rw (p.1, p.2) (field_refused_2 c.args.room _ _ _ (c.in_ok-selectors.ensures c.args.room) _ _ (word_refuses Place arrow_token c.args.room _ _ _ c.in_err-arrow.ensures))

pub returns-in_err-node : goal.returns-in_err-node
returns-in_err-node c =
    let p = err_from_is_err_and c.from_residual-in_err-node.result c.from_residual-in_err-node.ensures.1 in
    rw (p.1, p.2) (field_refused_3 c.args.room _ _ _ (c.in_ok-selectors.ensures c.args.room) _ _ (word_in_any Place arrow_token c.args.room _ _ _ c.in_ok-arrow.ensures) _ _ c.in_err-node.ensures)

pub returns : goal.returns
returns c =
    let same : c.deref.result.now ≡ c.in_ok-node.node.value = search rules in
    let ends = c.type_ends_in_terms-behind_terms.ensures ∙ ap (λ z. ends_in_terms (type_of z)) same in
    rw c.from_node-ty.ensures (field_found c.args.room _ _ _ (c.in_ok-selectors.ensures c.args.room) _ _ (word_in_any Place arrow_token c.args.room _ _ _ c.in_ok-arrow.ensures) _ _ c.in_ok-node.ensures, ends)
