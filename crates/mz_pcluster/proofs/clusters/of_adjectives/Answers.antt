use Rattle.std.proofs.Common.{false, refl}
use Rattle.std.proofs.lemmas.Result.{err_from_is_err_and}
use Rattle.mz_ptype.specs.Forms.{adjectives_form}
use Rattle.mz_pcluster.specs.Forms.{behind_form}
use Rattle.mz_pcluster.proofs.Joined.{first_refused, second_refused, both_found}
use Rattle.mz_pcluster.proofs.ClusterSteps.{joined_adjectives}
use Rattle.mz_pcluster.proofs.clusters.of_adjectives.Goals as goal

pub returns-in_err-first : goal.returns-in_err-first
returns-in_err-first c =
    let p = err_from_is_err_and c.from_residual.result c.from_residual.ensures.1 in
    rw (p.1, p.2) (first_refused (adjectives_form false) (λ _. behind_form) joined_adjectives c.args.room _ _ _ c.in_err-first.ensures)

pub returns-in_err-behind : goal.returns-in_err-behind
returns-in_err-behind c =
    let p = err_from_is_err_and c.from_residual-in_err-behind.result c.from_residual-in_err-behind.ensures.1 in
    rw (p.1, p.2) (second_refused (adjectives_form false) (λ _. behind_form) joined_adjectives c.args.room _ _ _ c.in_ok-first.ensures _ _ c.in_err-behind.ensures)

pub returns : goal.returns
returns c =
    rw c.from_nodes.ensures (_, (both_found (adjectives_form false) (λ _. behind_form) joined_adjectives c.args.room _ _ _ c.in_ok-first.ensures _ _ c.in_ok-behind.ensures), refl)
