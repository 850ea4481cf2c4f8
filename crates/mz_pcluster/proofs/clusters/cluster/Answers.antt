use Rattle.std.specs.Prelude.{codes}
use Rattle.std.proofs.lemmas.Result.{err_from_is_err_and}
use Rattle.mz_base.specs.declared.place.Place.{Place}
use Rattle.mz_forms.proofs.Words.{word_in_any, word_refuses}
use Rattle.mz_ppattern.specs.Words.{word_form, word_token}
use Rattle.mz_pcluster.specs.Forms.{registered_form, cluster_form}
use Rattle.mz_pcluster.proofs.Joined.{first_refused, second_refused, both_found, shaped_refused, shaped_found}
use Rattle.mz_pcluster.proofs.ClusterSteps.{cluster_1, make_cluster, joined_cluster, as_cluster}
use Rattle.mz_pcluster.proofs.clusters.cluster.Goals as goal

pub returns-in_err-cluster : goal.returns-in_err-cluster
returns-in_err-cluster c =
    let p = err_from_is_err_and c.from_residual.result c.from_residual.ensures.1 in
    rw (p.1, p.2) (shaped_refused cluster_form cluster_1 make_cluster c.args.room _ (as_cluster _) _ _ (first_refused (word_form (codes "cluster")) (λ _. registered_form) joined_cluster c.args.room _ _ _ (word_refuses Place (word_token (codes "cluster")) c.args.room _ _ _ c.in_err-cluster.ensures)))

pub returns-in_err-registered : goal.returns-in_err-registered
returns-in_err-registered c =
    let p = err_from_is_err_and c.from_residual-in_err-registered.result c.from_residual-in_err-registered.ensures.1 in
    rw (p.1, p.2) (shaped_refused cluster_form cluster_1 make_cluster c.args.room _ (as_cluster _) _ _ (second_refused (word_form (codes "cluster")) (λ _. registered_form) joined_cluster c.args.room _ _ _ (word_in_any Place (word_token (codes "cluster")) c.args.room _ _ _ c.in_ok-cluster.ensures) _ _ c.in_err-registered.ensures))

pub returns : goal.returns
returns c = rw c.cluster_of.ensures (shaped_found cluster_form cluster_1 make_cluster c.args.room _ (as_cluster _) _ _ (both_found (word_form (codes "cluster")) (λ _. registered_form) joined_cluster c.args.room _ _ _ (word_in_any Place (word_token (codes "cluster")) c.args.room _ _ _ c.in_ok-cluster.ensures) _ _ c.in_ok-registered.ensures))
