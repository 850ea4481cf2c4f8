-- What comes of a heading of a block of definitions, with the conditions and properties behind it.
use Rattle.std.specs.Prelude.{ℕ, List, Option}
use Rattle.mz_base.specs.declared.place.Place.{Place}
use Rattle.mz_justified.specs.declared.proof_fault.ProofRefusal.TheVariants.{NotBuilt}
use Rattle.mz_standing.specs.declared.standing.Standing.{Standing}
use Rattle.mz_structure.specs.Structures.{Structures}
use Rattle.mz_taken.specs.Taken.{Taken, Refused}
use Rattle.mz_taken.specs.declared.item_fault.ItemRefusal.TheVariants.{Proof}
use Rattle.mz_tree_heading.specs.declared.heading.AbbreviationTree.{AbbreviationTree}
use Rattle.mz_tree_heading.specs.declared.heading.AttributeHeadingTree.{AttributeHeadingTree}
use Rattle.mz_tree_heading.specs.declared.heading.FunctorHeadingTree.{FunctorHeadingTree}
use Rattle.mz_tree_heading.specs.declared.heading.HeadingTree.{HeadingTree}
use Rattle.mz_tree_heading.specs.declared.heading.HeadingTree.TheVariants as tree
use Rattle.mz_tree_heading.specs.declared.heading.ModeHeadingTree.{ModeHeadingTree}
use Rattle.mz_tree_heading.specs.declared.heading.PredicateHeadingTree.{PredicateHeadingTree}
use Rattle.mz_tree_heading.specs.declared.meaning.MeaningTree.{MeaningTree}
use Rattle.mz_tree_heading.specs.declared.structure.StructureTree.{StructureTree}
use Rattle.mz_tree_item.specs.declared.definition.ConditionOrPropertyTree.{ConditionOrPropertyTree}
use Rattle.mz_defined.specs.Atoms.{DefinesPredicate, DefinesAttribute}
use Rattle.mz_defined.specs.Functors.{DefinesFunctor, DefinesMode, DefinesAbbreviation}

-- a heading in a block whose loci are the constants from `least` on, with what is written behind it, where the first token behind that stands
-- at a place; redefinitions aren't built, and are refused at their first token
pub data Heads (least : ℕ) (s : Standing) (behind : Place) : HeadingTree → List ConditionOrPropertyTree → Taken Standing → Type 0 where
  predicate : (t : PredicateHeadingTree MeaningTree) (ws : List ConditionOrPropertyTree) (o : Taken Standing) → DefinesPredicate least s t ws behind o → Heads least s behind (tree.Predicate t) ws o
  structure : (t : StructureTree) (ws : List ConditionOrPropertyTree) (o : Taken Standing) → Structures least s t ws o → Heads least s behind (tree.Structure t) ws o
  functor : (t : FunctorHeadingTree MeaningTree) (ws : List ConditionOrPropertyTree) (o : Taken Standing) → DefinesFunctor least s t ws behind o → Heads least s behind (tree.Functor t) ws o
  attribute : (t : AttributeHeadingTree MeaningTree) (ws : List ConditionOrPropertyTree) (o : Taken Standing) → DefinesAttribute least s t ws behind o → Heads least s behind (tree.Attribute t) ws o
  mode : (t : ModeHeadingTree MeaningTree) (ws : List ConditionOrPropertyTree) (o : Taken Standing) → DefinesMode least s t ws behind o → Heads least s behind (tree.Mode t) ws o
  abbreviation : (t : AbbreviationTree) (ws : List ConditionOrPropertyTree) (o : Taken Standing) → DefinesAbbreviation least s t ws behind o → Heads least s behind (tree.Abbreviation t) ws o
  redefined_functor : (p : Place) (t : FunctorHeadingTree (Option MeaningTree)) (ws : List ConditionOrPropertyTree) → Heads least s behind (tree.RedefinedFunctor p t) ws (Refused (Proof (NotBuilt p)))
  redefined_predicate : (p : Place) (t : PredicateHeadingTree (Option MeaningTree)) (ws : List ConditionOrPropertyTree) → Heads least s behind (tree.RedefinedPredicate p t) ws (Refused (Proof (NotBuilt p)))
  redefined_attribute : (p : Place) (t : AttributeHeadingTree (Option MeaningTree)) (ws : List ConditionOrPropertyTree) → Heads least s behind (tree.RedefinedAttribute p t) ws (Refused (Proof (NotBuilt p)))
  redefined_mode : (p : Place) (t : ModeHeadingTree (Option MeaningTree)) (ws : List ConditionOrPropertyTree) → Heads least s behind (tree.RedefinedMode p t) ws (Refused (Proof (NotBuilt p)))
