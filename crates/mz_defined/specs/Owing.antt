-- What comes of an item of a heading, with the conditions and properties behind it.
use Rattle.std.specs.Prelude.{◌≡◌, ℕ, Bool, true, false, ◌&&◌, nat_le, List, [], ◌∷◌, length, Option, Some, None}
use Rattle.std.specs.List.{list_all}
use Rattle.mz_base.specs.declared.place.Place.{Place}
use Rattle.mz_core.specs.declared.item.Item.{Item}
use Rattle.mz_core.specs.declared.outcome.Left.{Left}
use Rattle.mz_cluster_items.specs.Items.{sequent_keeps}
use Rattle.mz_items.specs.Conditions.{condition_number}
use Rattle.mz_items.specs.Items.{owed_statements, granted_statements}
use Rattle.mz_items.specs.declared.condition.Condition.{Condition as TheCondition}
use Rattle.mz_context.specs.declared.context.Context.{Context}
use Rattle.mz_justified.specs.declared.proof_fault.ProofRefusal.TheVariants.{Resolve}
use Rattle.mz_loci.specs.Loci.{loci_from}
use Rattle.mz_names.specs.declared.refusal.Refusal.TheVariants.{TooLarge}
use Rattle.mz_obligations.specs.declared.obligation.Obligation.{Obligation}
use Rattle.mz_owed.specs.Owed.{at_first, missing}
use Rattle.mz_properties.specs.Properties.{Asked, asked, TakesConditions}
use Rattle.mz_properties.specs.Properties.{TakesAllFurther}
use Rattle.mz_sizes.specs.Sizes.{statement_keeps}
use Rattle.mz_standing.specs.Standing.{extent_of, with_left, with_context, with_item, behind_heading}
use Rattle.mz_standing.specs.declared.standing.Standing.{Standing}
use Rattle.mz_taken.specs.Taken as taken
use Rattle.mz_taken.specs.Taken.{Taken, Made, Refused}
use Rattle.mz_taken.specs.declared.item_fault.ItemRefusal.{ItemRefusal}
use Rattle.mz_taken.specs.declared.item_fault.ItemRefusal.TheVariants.{Proof, ConditionMissing}
use Rattle.mz_tree_item.specs.declared.definition.ConditionTree.{ConditionTree}
use Rattle.mz_tree_item.specs.declared.definition.ConditionOrPropertyTree.{ConditionOrPropertyTree}
use Rattle.mz_tree_item.specs.declared.definition.ConditionOrPropertyTree.TheVariants.{Condition, Property}

-- an item of so many loci has at most 512 of them, and what it owes and grants is within the limits on nodes and depth
abbrev pub all_keep : ℕ → Item → Bool
all_keep count x = nat_le count 512 && (list_all sequent_keeps (owed_statements x) && list_all statement_keeps (granted_statements x))

-- the conditions before the first property, and what stands from there on
abbrev pub conditions_in : List ConditionOrPropertyTree → List ConditionTree
conditions_in [] = []
conditions_in (Condition t ∷ ws) = t ∷ conditions_in ws
conditions_in (Property t ∷ ws) = []

abbrev pub further_in : List ConditionOrPropertyTree → List ConditionOrPropertyTree
further_in [] = []
further_in (Condition t ∷ ws) = further_in ws
further_in (Property t ∷ ws) = Property t ∷ ws

-- behind a heading that made the item, with what is left then: it is in force, and its definitional theorem has the label
abbrev pub headed : Standing → Item → List ℕ → Left → Standing
headed s x label left = with_left (with_context (with_item s x) (behind_heading s.context x label)) left

-- behind them all a condition that is owed and not written is missing, at the token behind the last one
abbrev pub unless_missing : Place → Option TheCondition → Taken Standing → Taken Standing
unless_missing behind None o = o
unless_missing behind (Some c) (Made os s) = Refused (ConditionMissing behind (condition_number c))
unless_missing behind (Some c) (Refused r) = Refused r

-- how many loci the block has, the constants from `least` on
abbrev pub loci_count : ℕ → Context → ℕ
loci_count least c = length (loci_from least c.constants)

-- an item whose heading was read: the conditions are taken, one after another, by what stands above; then it is in force, and the properties are
-- taken, where what stands has it
pub data TakesWritten (least : ℕ) (s : Standing) (label : List ℕ) (x : Item) (ws : List ConditionOrPropertyTree) (behind : Place) : Taken Standing → Type 0 where
  condition_refused : (r : ItemRefusal) → TakesConditions s.environment (extent_of s) s.context least (loci_count least s.context) x (asked (at_first x) s.left) (conditions_in ws) (Refused r) → TakesWritten least s label x ws behind (Refused r)
  conditions_taken : (os : List Obligation) (a : Asked) (o : Taken Standing) → TakesConditions s.environment (extent_of s) s.context least (loci_count least s.context) x (asked (at_first x) s.left) (conditions_in ws) (Made os a) →
      TakesAllFurther least (loci_count least s.context) x a.owed (headed s x label a.left) (further_in ws) o → TakesWritten least s label x ws behind (taken.behind os (unless_missing behind (missing a.owed) o))

-- so where the heading's first token stands at a place, and what the item owes and grants has to keep the limits
pub data TakesOwing (least : ℕ) (s : Standing) (first : Place) (label : List ℕ) (x : Item) (ws : List ConditionOrPropertyTree) (behind : Place) : Taken Standing → Type 0 where
  too_large : all_keep (loci_count least s.context) x ≡ false → TakesOwing least s first label x ws behind (Refused (Proof (Resolve (TooLarge first))))
  kept : (o : Taken Standing) → all_keep (loci_count least s.context) x ≡ true → TakesWritten least s label x ws behind o → TakesOwing least s first label x ws behind o
