use Rattle.std.proofs.Common.{◌≡◌, sym, ◌∙◌}
use Rattle.std.proofs.lemmas.Result.{err_from_is_err_and}
use Rattle.mz_pcluster.specs.declared.kinds.ClusterKind.TheVariants as cluster_kinds
use Rattle.mz_pcluster.specs.Classes.{cluster_kind}
use Rattle.mz_pcluster.specs.Forms.{implied_form, registered_form}
use Rattle.mz_pcluster.proofs.Joined.{shaped_found}
use Rattle.mz_pcluster.proofs.ClusterSteps.{of_implied, as_arrow, gives_arrow, gives_adjectives, gives_group, gives_term}
use Rattle.mz_pcluster.proofs.clusters.registered.Goals as goal

pub returns-in_err-implied-in-Arrow : goal.returns-in_err-implied-in-Arrow
returns-in_err-implied-in-Arrow c =
    let p = err_from_is_err_and c.from_residual.result c.from_residual.ensures.1 in
    let h : cluster_kind c.args.reader.now.rest.now ≡ cluster_kinds.Arrow = sym c.cluster_kind.ensures ∙ c.in-Arrow.is in
    rw (p.1, p.2) (gives_arrow c.args.room _ _ _ h c.in_err-implied-in-Arrow.ensures)

pub returns-in_ok-implied-in-Arrow : goal.returns-in_ok-implied-in-Arrow
returns-in_ok-implied-in-Arrow c =
    let h : cluster_kind c.args.reader.now.rest.now ≡ cluster_kinds.Arrow = sym c.cluster_kind.ensures ∙ c.in-Arrow.is in
    shaped_found registered_form implied_form of_implied c.args.room _ (as_arrow _ h) _ _ c.in_ok-implied-in-Arrow.ensures

pub returns-in-Adjectives : goal.returns-in-Adjectives
returns-in-Adjectives c =
    let h : cluster_kind c.args.reader.now.rest.now ≡ cluster_kinds.Adjectives = sym c.cluster_kind.ensures ∙ c.in-Adjectives.is in
    gives_adjectives c.args.room _ _ _ h c.of_adjectives.ensures

pub returns-in-Group : goal.returns-in-Group
returns-in-Group c =
    let h : cluster_kind c.args.reader.now.rest.now ≡ cluster_kinds.Group = sym c.cluster_kind.ensures ∙ c.in-Group.is in
    gives_group c.args.room _ _ _ h c.group.ensures

pub returns-in-Term : goal.returns-in-Term
returns-in-Term c =
    let h : cluster_kind c.args.reader.now.rest.now ≡ cluster_kinds.Term = sym c.cluster_kind.ensures ∙ c.in-Term.is in
    gives_term c.args.room _ _ _ h c.of_term.ensures
