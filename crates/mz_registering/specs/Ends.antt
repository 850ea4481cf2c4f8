-- What calls within a heading came to.
use Rattle.std.specs.Prelude.{◌≡◌, ℕ, List, Option, Some, None, Result, Ok, Err}
use Rattle.mz_base.specs.declared.place.Place.{Place}
use Rattle.mz_clusters.specs.declared.headings.ReadCluster.{ReadCluster}
use Rattle.mz_justified.specs.declared.proof_fault.ProofRefusal.TheVariants.{NotBuilt}
use Rattle.mz_obligations.specs.declared.obligation.Obligation.{Obligation}
use Rattle.mz_registered.specs.Headings.{first_of_cluster, TakesCluster}
use Rattle.mz_standing.specs.declared.standing.Standing.{Standing}
use Rattle.mz_taken.specs.Taken.{Taken, Made, Refused}
use Rattle.mz_taken.specs.declared.item_fault.ItemRefusal.{ItemRefusal}
use Rattle.mz_taken.specs.declared.item_fault.ItemRefusal.TheVariants.{Proof}
use Rattle.mz_tree_item.specs.declared.definition.ConditionTree.{ConditionTree}
use Rattle.mz_tree_part.specs.declared.cluster.ClusterTree.{ClusterTree}

-- a call that makes no obligation, behind those that were made
abbrev pub EndsWith : {X : Type 0} → List Obligation → Taken Standing → Standing → Result X ItemRefusal → Type 0
EndsWith os w s (Ok x) = w ≡ Made os s
EndsWith os w s (Err r) = w ≡ Refused r

-- behind a heading that was read: to a cluster, or to none, since it isn't built
abbrev pub HeadsAs : ℕ → Standing → ClusterTree → List ConditionTree → Place → Option ReadCluster → Taken Standing → Type 0
HeadsAs least s t ws behind None w = w ≡ Refused (Proof (NotBuilt (first_of_cluster t)))
HeadsAs least s t ws behind (Some x) w = TakesCluster least s (first_of_cluster t) x ws behind w
