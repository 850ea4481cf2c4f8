-- The properties behind the heading of an item, one after another.
use Rattle.std.specs.Prelude.{◌≡◌, ℕ, Bool, true, false, List, [], ◌∷◌, Some, None}
use Rattle.mz_core.specs.Statement.{Statement}
use Rattle.mz_core.specs.declared.item.Item.{Item}
use Rattle.mz_core.specs.declared.item.Item.TheVariants as item
use Rattle.mz_core.specs.declared.outcome.Left.{Left}
use Rattle.mz_core.specs.declared.property.Property.{Property as TheProperty}
use Rattle.mz_items.specs.Loci.{over}
use Rattle.mz_items.specs.PropertyRows.{property_statement}
use Rattle.mz_items.specs.declared.condition.Condition.{Condition as TheCondition}
pub use Rattle.mz_conditions.specs.Conditions.{Asked, asked, TakesConditions}
use Rattle.mz_conditions.specs.Conditions.{plain_sentence}
use Rattle.mz_justified.specs.declared.proof_fault.ProofRefusal.TheVariants.{NotBuilt, Resolve}
use Rattle.mz_loci.specs.Loci.{statement_at_loci}
use Rattle.mz_names.specs.declared.refusal.Refusal.TheVariants.{TooLarge}
use Rattle.mz_owed.specs.Owed.{named, number_of, covered}
use Rattle.mz_owed.specs.declared.owed.Owed.{Owed}
use Rattle.mz_sizes.specs.Sizes.{statement_keeps}
use Rattle.mz_standing.specs.Standing.{extent_of, with_left, with_context, with_item, behind_heading}
use Rattle.mz_standing.specs.declared.standing.Standing.{Standing}
use Rattle.mz_taken.specs.Taken.{Taken, Made, Refused}
use Rattle.mz_taken.specs.OneByOne.{OneByOne}
use Rattle.mz_taken.specs.declared.item_fault.ItemRefusal.{ItemRefusal}
use Rattle.mz_taken.specs.declared.item_fault.ItemRefusal.TheVariants.{Proof, ConditionStray}
use Rattle.mz_tree_item.specs.declared.definition.ConditionOrPropertyTree.{ConditionOrPropertyTree}
use Rattle.mz_tree_item.specs.declared.definition.ConditionOrPropertyTree.TheVariants.{Condition, Property}
use Rattle.mz_tree_item.specs.declared.definition.ConditionTree.{ConditionTree}
use Rattle.mz_tree_item.specs.declared.definition.PropertyTree.{PropertyTree}
use Rattle.mz_walk.specs.Walk.{Justifies}
use Rattle.mz_walk.specs.Walked as walked
use Rattle.mz_walk.specs.Walked.{Walked}
use Rattle.mz_properties.specs.Forms.{property_of}

-- what a property states under its loci, and for all of them
abbrev pub stated : TheProperty → Statement
stated p = property_statement p.loci p.form

-- it is within the limits on nodes and depth
abbrev pub property_keeps : TheProperty → Bool
property_keeps p = statement_keeps (over p.loci (stated p))

-- behind a property: it is in force, and there is no statement just before
abbrev pub in_force : Standing → Item → Left → Standing
in_force s x left = with_left (with_context (with_item s x) (behind_heading s.context x [])) left

abbrev pub behind_judged : Standing → Item → Walked Left → Taken Standing
behind_judged s x (walked.Made os left) = Made os (in_force s x left)
behind_judged s x (walked.Refused r) = Refused (Proof r)

-- A property in a block with so many loci, the constants from `least` on, where its word stands: it is within the limits; it is justified, at
-- the loci, by what stands; then it is in force.
pub data TakesKnown (least count : ℕ) (p : TheProperty) (s : Standing) (t : PropertyTree) : Taken Standing → Type 0 where
  too_large : property_keeps p ≡ false → TakesKnown least count p s t (Refused (Proof (Resolve (TooLarge t.place))))
  judged : (o : Walked Left) → property_keeps p ≡ true →
      Justifies s.environment (extent_of s) s.context t.place false t.semicolon t.just (plain_sentence (statement_at_loci least count (stated p))) s.left o →
      TakesKnown least count p s t (behind_judged s (item.Property p) o)

-- A property behind the heading of the item x, which is in force: a word that states none of it is stray. So a property is judged by the item
-- and by the properties before it, and not by itself.
pub data TakesProperty (least count : ℕ) (x : Item) (s : Standing) (t : PropertyTree) : Taken Standing → Type 0 where
  stray : property_of t.word x ≡ None → TakesProperty least count x s t (Refused (ConditionStray t.place 7))
  known : (p : TheProperty) (o : Taken Standing) → property_of t.word x ≡ Some p → TakesKnown least count p s t o → TakesProperty least count x s t o

-- a condition there: one that covers nothing is stray; others aren't built
abbrev pub condition_refusal : List TheCondition → ConditionTree → ItemRefusal
condition_refusal [] t = ConditionStray t.place (number_of (named t.word))
condition_refusal (c ∷ cs) t = Proof (NotBuilt t.place)

-- what may stand from the first property on, where so much is owed
pub data TakesFurther (least count : ℕ) (x : Item) (owed : Owed) (s : Standing) : ConditionOrPropertyTree → Taken Standing → Type 0 where
  property : (t : PropertyTree) (o : Taken Standing) → TakesProperty least count x s t o → TakesFurther least count x owed s (Property t) o
  condition : (t : ConditionTree) → TakesFurther least count x owed s (Condition t) (Refused (condition_refusal (covered owed t.word) t))

-- all that stands there, one after another
abbrev pub TakesAllFurther : ℕ → ℕ → Item → Owed → Standing → List ConditionOrPropertyTree → Taken Standing → Type 0
TakesAllFurther least count x owed = OneByOne (TakesFurther least count x owed)
