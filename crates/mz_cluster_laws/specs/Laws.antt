-- Laws of headings of registrations.
use Rattle.std.specs.Prelude.{◌≡◌, ◌≤◌, ℕ, true, List, Some, Ok}
use Rattle.std.specs.List.{list_all}
use Rattle.mz_core.specs.declared.adjective.Adjective.{Adjective}
use Rattle.mz_core.specs.declared.outcome.Left.{Left}
use Rattle.mz_core.specs.declared.soft_type.SoftType.{SoftType}
use Rattle.mz_context.specs.Context.{next}
use Rattle.mz_context.specs.declared.context.Context.{Context}
use Rattle.mz_environment.specs.declared.environment.Environment.{Environment}
use Rattle.mz_closed_laws.specs.ClosedEnvironment.{IsClosedEnvironment}
use Rattle.mz_tree_part.specs.declared.cluster.ClusterTree.{ClusterTree}
use Rattle.mz_justified_laws.specs.Determined.{IsDetermined}
use Rattle.mz_term_laws.specs.Usable.{term_usable, adjective_usable, type_usable}
use Rattle.mz_term_laws.specs.Whole.{IsWhole}
use Rattle.mz_clusters.specs.Headings.{ClusterRead}
use Rattle.mz_clusters.specs.declared.headings.ReadCluster.{ReadCluster}
use Rattle.mz_clusters.specs.declared.headings.ReadCluster.TheVariants.{Existential, Conditional, Functorial}

-- what a heading is read to, and what is left then, is determined
abbrev pub OneClusterLaw : Type 0
OneClusterLaw = (e : Environment) (c : Context) (least : ℕ) (left : Left) (t : ClusterTree) → IsDetermined (ClusterRead e c least left t)

-- the adjectives have usable constants alone and no loose index
abbrev pub AreUsable : ℕ → Context → List Adjective → Type 0
AreUsable from c xs = list_all (adjective_usable from c) xs ≡ true

-- so it is with all parts of a cluster
abbrev pub IsUsableCluster : ℕ → Context → ReadCluster → Type 0
IsUsableCluster from c (Existential x) = (type_usable from c x.ty ≡ true) × AreUsable from c x.adjectives
IsUsableCluster from c (Conditional x) = (type_usable from c x.ty ≡ true) × AreUsable from c x.from × AreUsable from c x.to
IsUsableCluster from c (Functorial x) = (term_usable from c x.term ≡ true) × ((ty : SoftType) → x.ty ≡ Some ty → type_usable from c ty ≡ true) × AreUsable from c x.adjectives

-- where it is read in a whole context of a closed environment
abbrev pub ClusterLaw : Type 0
ClusterLaw =
    (e : Environment) (c : Context) (from least : ℕ) → IsClosedEnvironment e → IsWhole from c → from ≤ least → from ≤ next c →
    (left after : Left) (t : ClusterTree) (x : ReadCluster) → ClusterRead e c least left t (Ok (Some x)) after → IsUsableCluster from c x
