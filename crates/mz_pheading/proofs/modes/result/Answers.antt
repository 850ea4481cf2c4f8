use Rattle.std.proofs.lemmas.Result.{err_from_is_err_and}
use Rattle.mz_forms.proofs.Words.{word_in_any, word_refuses}
use Rattle.mz_base.specs.declared.place.Place.{Place}
use Rattle.mz_ppattern.specs.Words.{arrow_token}
use Rattle.mz_pheading.proofs.ModeSequences.{result_refused_1, result_refused_2, result_found}
use Rattle.mz_pheading.proofs.modes.result.Goals as goal

pub returns-in_err-arrow : goal.returns-in_err-arrow
returns-in_err-arrow c =
    let p = err_from_is_err_and c.from_residual.result c.from_residual.ensures.1 in
    rw (p.1, p.2) (result_refused_1 c.args.room _ _ _ (word_refuses Place arrow_token c.args.room _ _ _ c.in_err-arrow.ensures))

pub returns-in_err-node : goal.returns-in_err-node
returns-in_err-node c =
    let p = err_from_is_err_and c.from_residual-in_err-node.result c.from_residual-in_err-node.ensures.1 in
    rw (p.1, p.2) (result_refused_2 c.args.room _ _ _ (word_in_any Place arrow_token c.args.room _ _ _ c.in_ok-arrow.ensures) _ _ c.in_err-node.ensures)

pub returns : goal.returns
returns c = rw c.from_node-ty.ensures (result_found c.args.room _ _ _ (word_in_any Place arrow_token c.args.room _ _ _ c.in_ok-arrow.ensures) _ _ c.in_ok-node.ensures)
