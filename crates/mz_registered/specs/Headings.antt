-- What comes of a heading of a block of registrations, with the conditions behind it.
use Rattle.std.specs.Prelude.{◌≡◌, ℕ, true, false, List, [], length, Option, Some, None, Ok, Err}
use Rattle.mz_base.specs.declared.place.Place.{Place}
use Rattle.mz_core.specs.declared.item.Item.{Item}
use Rattle.mz_core.specs.declared.outcome.Left.{Left}
use Rattle.mz_items.specs.Conditions.{condition_number}
use Rattle.mz_items.specs.declared.condition.Condition.{Condition}
use Rattle.mz_context.specs.declared.constants.Constant.{Constant}
use Rattle.mz_justified.specs.declared.proof_fault.ProofRefusal.TheVariants.{NotBuilt, Resolve}
use Rattle.mz_names.specs.declared.refusal.Refusal.{Refusal}
use Rattle.mz_names.specs.declared.refusal.Refusal.TheVariants.{TooLarge}
use Rattle.mz_obligations.specs.declared.obligation.Obligation.{Obligation}
use Rattle.mz_loci.specs.Loci.{loci_from}
use Rattle.mz_clusters.specs.Headings.{ClusterRead}
use Rattle.mz_clusters.specs.declared.headings.ReadCluster.{ReadCluster}
use Rattle.mz_cluster_items.specs.Items.{all_occur, cluster_item, cluster_keeps}
use Rattle.mz_owed.specs.Owed.{at_first, missing}
use Rattle.mz_conditions.specs.Conditions.{Asked, asked, TakesConditions}
use Rattle.mz_standing.specs.Standing.{extent_of, with_left, with_context, with_item, behind_heading}
use Rattle.mz_standing.specs.declared.standing.Standing.{Standing}
use Rattle.mz_taken.specs.Taken.{Taken, Made, Refused}
use Rattle.mz_taken.specs.declared.item_fault.ItemRefusal.TheVariants.{Proof, ConditionMissing, BadLoci}
use Rattle.mz_tree_item.specs.declared.definition.ConditionTree.{ConditionTree}
use Rattle.mz_tree_part.specs.declared.cluster.ClusterTree.{ClusterTree}
use Rattle.mz_tree_part.specs.declared.cluster.ClusterTree.TheVariants as tree

-- the place of a cluster's first token
abbrev pub first_of_cluster : ClusterTree → Place
first_of_cluster (tree.Existential t) = t.cluster
first_of_cluster (tree.Conditional t) = t.cluster
first_of_cluster (tree.Functorial t) = t.cluster
first_of_cluster (tree.Reduce t) = t.reduce
first_of_cluster (tree.Identify t) = t.identify

-- the loci of the block, the constants from `least` on
abbrev pub block_loci : ℕ → Standing → List (Option Constant)
block_loci least s = loci_from least s.context.constants

-- behind the registration: it is in force, and there is no statement just before
abbrev pub registered : Standing → Item → Left → Standing
registered s x left = with_context (with_item (with_left s left) x) (behind_heading s.context x [])

-- behind its conditions: one that is owed and not written is missing, at the token behind the last one
abbrev pub missing_or_registered : Standing → Item → Place → List Obligation → Left → Option Condition → Taken Standing
missing_or_registered s x behind os left None = Made os (registered s x left)
missing_or_registered s x behind os left (Some c) = Refused (ConditionMissing behind (condition_number c))

abbrev pub behind_conditions : Standing → Item → Place → Taken Asked → Taken Standing
behind_conditions s x behind (Made os a) = missing_or_registered s x behind os a.left (missing a.owed)
behind_conditions s x behind (Refused r) = Refused r

-- what comes of a registration in a block with so many loci, the constants from `least` on: its conditions are taken, by what stood above the
-- heading
pub data TakesItem (least count : ℕ) (s : Standing) (x : Item) (ws : List ConditionTree) (behind : Place) : Taken Standing → Type 0 where
  judged : (o : Taken Asked) → TakesConditions s.environment (extent_of s) s.context least count x (asked (at_first x) s.left) ws o →
      TakesItem least count s x ws behind (behind_conditions s x behind o)

-- what comes of a cluster as read, whose first token stands at the place: each locus has to occur in it, and what it owes has to keep the
-- limits
pub data TakesCluster (least : ℕ) (s : Standing) (place : Place) (x : ReadCluster) (ws : List ConditionTree) (behind : Place) : Taken Standing → Type 0 where
  bad_loci : all_occur least (length (block_loci least s)) x ≡ false → TakesCluster least s place x ws behind (Refused (BadLoci place))
  too_large : all_occur least (length (block_loci least s)) x ≡ true → cluster_keeps least (block_loci least s) x ≡ false →
      TakesCluster least s place x ws behind (Refused (Proof (Resolve (TooLarge place))))
  kept : (o : Taken Standing) → all_occur least (length (block_loci least s)) x ≡ true → cluster_keeps least (block_loci least s) x ≡ true →
      TakesItem least (length (block_loci least s)) s (cluster_item least (block_loci least s) x) ws behind o → TakesCluster least s place x ws behind o

-- a heading with its conditions, where the first token behind them stands at a place. Reductions and identifications aren't built
pub data Heads (least : ℕ) (s : Standing) (t : ClusterTree) (ws : List ConditionTree) (behind : Place) : Taken Standing → Type 0 where
  not_built : (after : Left) → ClusterRead s.environment s.context least s.left t (Ok None) after → Heads least s t ws behind (Refused (Proof (NotBuilt (first_of_cluster t))))
  not_read : (r : Refusal) (after : Left) → ClusterRead s.environment s.context least s.left t (Err r) after → Heads least s t ws behind (Refused (Proof (Resolve r)))
  heading_read : (x : ReadCluster) (after : Left) (o : Taken Standing) → ClusterRead s.environment s.context least s.left t (Ok (Some x)) after →
      TakesCluster least (with_left s after) (first_of_cluster t) x ws behind o → Heads least s t ws behind o
