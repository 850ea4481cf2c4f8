use Rattle.std.proofs.Common.{rules, ◌≡◌, ◌∙◌, ap}
use Rattle.std.proofs.lemmas.Result.{err_from_is_err_and}
use Rattle.mz_base.specs.declared.place.Place.{Place}
use Rattle.mz_forms.proofs.Words.{word_in_any, word_refuses}
use Rattle.mz_tree.specs.Rules.{ends_in_terms}
use Rattle.mz_tree.specs.Views.{type_of}
use Rattle.mz_pterm.specs.declared.sign.Sign.TheVariants as signs
use Rattle.mz_pterm.specs.Words.{fixed}
use Rattle.mz_ppart.proofs.PartSequences.{segment_refused_1, segment_refused_2, segment_refused_3, segment_found}
use Rattle.mz_ppart.proofs.reserves.segment.Goals as goal

pub returns-in_err-identifiers : goal.returns-in_err-identifiers
returns-in_err-identifiers c =
    let p = err_from_is_err_and c.from_residual.result c.from_residual.ensures.1 in
    rw (p.1, p.2) (segment_refused_1 c.args.room _ _ _ (c.in_err-identifiers.ensures c.args.room))

pub returns-in_err-for_ : goal.returns-in_err-for_
returns-in_err-for_ c =
    let p = err_from_is_err_and c.from_residual-in_err-for_.result c.from_residual-in_err-for_.ensures.1 in
    rw (p.1, p.2) (segment_refused_2 c.args.room _ _ _ (c.in_ok-identifiers.ensures c.args.room) _ _ (word_refuses Place (fixed signs.For) c.args.room _ _ _ c.in_err-for_.ensures))

pub returns-in_err-node : goal.returns-in_err-node
returns-in_err-node c =
    let p = err_from_is_err_and c.from_residual-in_err-node.result c.from_residual-in_err-node.ensures.1 in
    rw (p.1, p.2) (segment_refused_3 c.args.room _ _ _ (c.in_ok-identifiers.ensures c.args.room) _ _ (word_in_any Place (fixed signs.For) c.args.room _ _ _ c.in_ok-for_.ensures) _ _ c.in_err-node.ensures)

pub returns : goal.returns
returns c =
    let same : c.deref.result.now ≡ c.in_ok-node.node.value = search rules in
    let ends = c.type_ends_in_terms-behind_terms.ensures ∙ ap (λ z. ends_in_terms (type_of z)) same in
    rw c.from_node-ty.ensures (segment_found c.args.room _ _ _ (c.in_ok-identifiers.ensures c.args.room) _ _ (word_in_any Place (fixed signs.For) c.args.room _ _ _ c.in_ok-for_.ensures) _ _ c.in_ok-node.ensures, ends)
