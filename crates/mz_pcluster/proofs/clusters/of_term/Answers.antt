use Rattle.std.proofs.Common.{false, refl}
use Rattle.std.proofs.lemmas.Result.{err_from_is_err_and}
use Rattle.mz_pterm.specs.Forms.{term_form}
use Rattle.mz_pcluster.specs.Forms.{assigned_form}
use Rattle.mz_pcluster.proofs.Joined.{first_refused, second_refused, both_found}
use Rattle.mz_pcluster.proofs.ClusterSteps.{joined_term}
use Rattle.mz_pcluster.proofs.clusters.of_term.Goals as goal

pub returns-in_err-node : goal.returns-in_err-node
returns-in_err-node c =
    let p = err_from_is_err_and c.from_residual.result c.from_residual.ensures.1 in
    rw (p.1, p.2) (first_refused (term_form false) (λ _. assigned_form) joined_term c.args.room _ _ _ c.in_err-node.ensures)

pub returns-in_err-assigned : goal.returns-in_err-assigned
returns-in_err-assigned c =
    let p = err_from_is_err_and c.from_residual-in_err-assigned.result c.from_residual-in_err-assigned.ensures.1 in
    rw (p.1, p.2) (second_refused (term_form false) (λ _. assigned_form) joined_term c.args.room _ _ _ c.in_ok-node.ensures _ _ c.in_err-assigned.ensures)

pub returns : goal.returns
returns c =
    rw c.from_node.ensures (_, (both_found (term_form false) (λ _. assigned_form) joined_term c.args.room _ _ _ c.in_ok-node.ensures _ _ c.in_ok-assigned.ensures), refl)
