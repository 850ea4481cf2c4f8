use Rattle.std.proofs.Common.{false}
use Rattle.std.proofs.lemmas.Result.{err_from_is_err_and}
use Rattle.mz_base.specs.declared.place.Place.{Place}
use Rattle.mz_forms.proofs.Words.{word_in_any, word_refuses}
use Rattle.mz_pterm.specs.declared.sign.Sign.TheVariants as signs
use Rattle.mz_pterm.specs.Words.{fixed, word}
use Rattle.mz_ptype.specs.Forms.{whole_type}
use Rattle.mz_pcluster.specs.Forms.{for_type_form}
use Rattle.mz_pcluster.proofs.Joined.{first_refused, second_refused, both_found, shaped_refused, shaped_found}
use Rattle.mz_pcluster.proofs.PartSteps.{for_type_1, make_for_type, joined_for_type, as_for_type}
use Rattle.mz_pcluster.proofs.parts.for_type.Goals as goal

pub returns-in_err-for_ : goal.returns-in_err-for_
returns-in_err-for_ c =
    let p = err_from_is_err_and c.from_residual.result c.from_residual.ensures.1 in
    rw (p.1, p.2) (shaped_refused for_type_form for_type_1 make_for_type c.args.room _ (as_for_type _) _ _ (first_refused (word signs.For) (λ _. whole_type false) joined_for_type c.args.room _ _ _ (word_refuses Place (fixed signs.For) c.args.room _ _ _ c.in_err-for_.ensures)))

pub returns-in_err-node : goal.returns-in_err-node
returns-in_err-node c =
    let p = err_from_is_err_and c.from_residual-in_err-node.result c.from_residual-in_err-node.ensures.1 in
    rw (p.1, p.2) (shaped_refused for_type_form for_type_1 make_for_type c.args.room _ (as_for_type _) _ _ (second_refused (word signs.For) (λ _. whole_type false) joined_for_type c.args.room _ _ _ (word_in_any Place (fixed signs.For) c.args.room _ _ _ c.in_ok-for_.ensures) _ _ c.in_err-node.ensures))

pub returns : goal.returns
returns c = rw c.from_node-ty.ensures (shaped_found for_type_form for_type_1 make_for_type c.args.room _ (as_for_type _) _ _ (both_found (word signs.For) (λ _. whole_type false) joined_for_type c.args.room _ _ _ (word_in_any Place (fixed signs.For) c.args.room _ _ _ c.in_ok-for_.ensures) _ _ c.in_ok-node.ensures))
