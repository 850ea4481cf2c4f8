-- What comes of an item behind its conditions.
use Rattle.std.specs.Prelude.{◌≡◌, ℕ, List, Option, Some, None, Result, Ok, Err}
use Rattle.mz_base.specs.declared.place.Place.{Place}
use Rattle.mz_core.specs.declared.item.Item.{Item}
use Rattle.mz_items.specs.Conditions.{condition_number}
use Rattle.mz_items.specs.declared.condition.Condition.{Condition}
use Rattle.mz_owed.specs.Owed.{missing}
use Rattle.mz_owed.specs.declared.owed.Owed.{Owed}
use Rattle.mz_properties.specs.Properties.{TakesAllFurther}
use Rattle.mz_standing.specs.declared.standing.Standing.{Standing}
use Rattle.mz_taken.specs.Taken.{Taken}
use Rattle.mz_taken.specs.declared.item_fault.ItemFault.{ItemFault}
use Rattle.mz_taken.specs.declared.item_fault.ItemFault.TheVariants as fault
use Rattle.mz_taken.specs.declared.item_fault.ItemRefusal.TheVariants.{ConditionMissing}
use Rattle.mz_tree_item.specs.declared.definition.ConditionOrPropertyTree.{ConditionOrPropertyTree}
use Rattle.mz_defined.specs.Owing.{headed, unless_missing}

-- nothing is missing, or this condition at the place
abbrev pub missing_answer : Place → Option Condition → Result (Unit {0}) ItemFault
missing_answer behind None = Ok tt
missing_answer behind (Some c) = Err (fault.Refused (ConditionMissing behind (condition_number c)))

-- the item is in force, what stands from the first property on is taken, and then a condition may be missing
pub record EndsItem (least count : ℕ) (s : Standing) (label : List ℕ) (x : Item) (owed : Owed) (ws : List ConditionOrPropertyTree) (behind : Place) (w : Taken Standing) : Type 0 where
  pub further : Taken Standing
  pub takes : TakesAllFurther least count x owed (headed s x label s.left) ws further
  pub ends : unless_missing behind (missing owed) further ≡ w
