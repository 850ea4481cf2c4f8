-- In a block of registrations the clauses only grow.
use Rattle.std.proofs.Common.{ℕ, List, refl, Option, None, Some}
use Rattle.mz_base.specs.declared.place.Place.{Place}
use Rattle.mz_core.specs.declared.item.Item.{Item}
use Rattle.mz_core.specs.declared.outcome.Left.{Left}
use Rattle.mz_ground.proofs.ListLemmas.{extends_itself}
use Rattle.mz_items.specs.declared.condition.Condition.{Condition}
use Rattle.mz_context.specs.Context.{next}
use Rattle.mz_let.specs.Lets as lets
use Rattle.mz_let.specs.Lets.{Lets}
use Rattle.mz_clusters.specs.declared.headings.ReadCluster.{ReadCluster}
use Rattle.mz_conditions.specs.Conditions.{Asked}
use Rattle.mz_owed.specs.Owed.{missing}
use Rattle.mz_obligations.specs.declared.obligation.Obligation.{Obligation}
use Rattle.mz_registered.specs.Headings as rule
use Rattle.mz_registered.specs.Headings.{missing_or_registered, behind_conditions, TakesItem, TakesCluster, Heads}
use Rattle.mz_registered.specs.Blocks as block
use Rattle.mz_registered.specs.Blocks.{with_places, TakesPart, ended, TakesBlock}
use Rattle.mz_standing.specs.Standing.{clauses_of, with_left}
use Rattle.mz_standing.specs.declared.standing.Standing.{Standing}
use Rattle.mz_standing_laws.specs.Kinds.{HasGrown, GrowsLaw}
use Rattle.mz_standing_laws.proofs.KindProofs.{grows_all_law}
use Rattle.mz_taken.specs.Taken.{Taken, Made, Refused}
use Rattle.mz_tree_item.specs.declared.definition.ConditionTree.{ConditionTree}
use Rattle.mz_tree_part.specs.declared.cluster.ClusterTree.{ClusterTree}
use Rattle.mz_tree_part.specs.declared.notation.BlockLetTree.{BlockLetTree}

let_grows : (least : ℕ) (s : Standing) (t : BlockLetTree) (w : Taken Standing) → Lets least s t w → HasGrown s w
let_grows least s t w (lets.not_declared r a h) = tt
let_grows least s t w (lets.declared vs a h) = extends_itself s.clauses

registered_grows : (s : Standing) (x : Item) (behind : Place) (os : List Obligation) (left : Left) (o : Option Condition) → HasGrown s (missing_or_registered s x behind os left o)
registered_grows s x behind os left None = (clauses_of x, refl)
registered_grows s x behind os left (Some c) = tt

conditions_grow : (s : Standing) (x : Item) (behind : Place) (o : Taken Asked) → HasGrown s (behind_conditions s x behind o)
conditions_grow s x behind (Made os a) = registered_grows s x behind os a.left (missing a.owed)
conditions_grow s x behind (Refused r) = tt

item_grows : (least count : ℕ) (s : Standing) (x : Item) (ws : List ConditionTree) (behind : Place) (w : Taken Standing) → TakesItem least count s x ws behind w → HasGrown s w
item_grows least count s x ws behind w (rule.judged o h) = conditions_grow s x behind o

cluster_grows : (least : ℕ) (s : Standing) (place : Place) (x : ReadCluster) (ws : List ConditionTree) (behind : Place) (w : Taken Standing) → TakesCluster least s place x ws behind w → HasGrown s w
cluster_grows least s place x ws behind w (rule.bad_loci a) = tt
cluster_grows least s place x ws behind w (rule.too_large a b) = tt
cluster_grows least s place x ws behind w (rule.kept o a b h) = item_grows least _ s _ ws behind o h

same_clauses : (s : Standing) (left : Left) (w : Taken Standing) → HasGrown (with_left s left) w → HasGrown s w
same_clauses s left (Made os u) h = h
same_clauses s left (Refused r) h = tt

heading_grows : (least : ℕ) (s : Standing) (t : ClusterTree) (ws : List ConditionTree) (behind : Place) (w : Taken Standing) → Heads least s t ws behind w → HasGrown s w
heading_grows least s t ws behind w (rule.not_built a h) = tt
heading_grows least s t ws behind w (rule.not_read r a h) = tt
heading_grows least s t ws behind w (rule.heading_read x a o h k) = same_clauses s a o (cluster_grows least (with_left s a) _ x ws behind o k)

pub part_grows : (least : ℕ) → GrowsLaw (TakesPart least)
part_grows least s p w (block.loci t behind o h) = let_grows least s t o h
part_grows least s p w (block.heading t ws behind o h) = heading_grows least s t ws behind o h

ended_grows : (least : ℕ) (s : Standing) (w : Taken Standing) → HasGrown s w → HasGrown s (ended least w)
ended_grows least s (Made os u) h = h
ended_grows least s (Refused r) h = tt

pub grows_registrations : GrowsLaw TakesBlock
grows_registrations s t w (block.block o h) = ended_grows (next s.context) s o (grows_all_law (TakesPart (next s.context)) (part_grows (next s.context)) s (with_places t.end t.parts) o h)
