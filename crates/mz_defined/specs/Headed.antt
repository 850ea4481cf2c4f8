-- What comes of a heading with a definiens.
use Rattle.std.specs.Prelude.{◌≡◌, ℕ, List, Option, Some, None, Result, Ok, Err}
use Rattle.mz_base.specs.declared.place.Place.{Place}
use Rattle.mz_core.specs.declared.item.Item.{Item}
use Rattle.mz_core.specs.declared.outcome.Left.{Left}
use Rattle.mz_justified.specs.declared.proof_fault.ProofRefusal.TheVariants.{Resolve, NotBuilt}
use Rattle.mz_names.specs.declared.refusal.Refusal.{Refusal}
use Rattle.mz_patterns.specs.declared.visible.Visible.{Visible}
use Rattle.mz_standing.specs.Standing.{with_left}
use Rattle.mz_standing.specs.declared.standing.Standing.{Standing}
use Rattle.mz_taken.specs.Taken.{Taken, Refused}
use Rattle.mz_taken.specs.declared.item_fault.ItemRefusal.TheVariants.{Proof, BadLoci}
use Rattle.mz_tree.specs.Trees.{TermData, FormulaData}
use Rattle.mz_tree_heading.specs.declared.meaning.CasesTree.{CasesTree}
use Rattle.mz_tree_heading.specs.declared.meaning.DefinitionLabelTree.{DefinitionLabelTree}
use Rattle.mz_tree_heading.specs.declared.meaning.MeaningTree.{MeaningTree}
use Rattle.mz_tree_heading.specs.declared.meaning.MeaningTree.TheVariants.{Means, Equals}
use Rattle.mz_tree_item.specs.declared.definition.ConditionOrPropertyTree.{ConditionOrPropertyTree}
use Rattle.mz_defined.specs.Owing.{TakesOwing}

-- a heading: the place of its first token, the label of its definiens, the visible loci of its pattern, and the item that it makes of what
-- is read
pub record DefiningHeading (X : Type 0) : Type 0 where
  pub first : Place
  pub label : List ℕ
  pub visible : Option Visible
  pub item : Visible → X → Item

-- It is taken in a block whose loci are the constants from `least` on. In this order: the loci are those that the pattern wants; what it says
-- is read; then its conditions are taken.
pub data DefinesBy {X : Type 0} (least : ℕ) (s : Standing) (h : DefiningHeading X) (reads : Result X Refusal → Left → Type 0) (ws : List ConditionOrPropertyTree) (behind : Place) : Taken Standing → Type 0 where
  bad_loci : h.visible ≡ None → DefinesBy least s h reads ws behind (Refused (BadLoci h.first))
  not_read : (v : Visible) (r : Refusal) (after : Left) → h.visible ≡ Some v → reads (Err r) after → DefinesBy least s h reads ws behind (Refused (Proof (Resolve r)))
  is_read : (v : Visible) (x : X) (after : Left) (o : Taken Standing) → h.visible ≡ Some v → reads (Ok x) after → TakesOwing least (with_left s after) h.first h.label (h.item v x) ws behind o →
      DefinesBy least s h reads ws behind o

-- one whose definiens is of formulas; `equals` is written for functors alone
pub data DefinesByFormulas {X : Type 0} (least : ℕ) (s : Standing) (h : DefiningHeading X) (reads : CasesTree FormulaData → Result X Refusal → Left → Type 0) (ws : List ConditionOrPropertyTree) (behind : Place) : MeaningTree → Taken Standing → Type 0 where
  by_formulas : (means : Place) (label : Option DefinitionLabelTree) (f : CasesTree FormulaData) (o : Taken Standing) → DefinesBy least s h (reads f) ws behind o → DefinesByFormulas least s h reads ws behind (Means means label f) o
  no_formulas : (equals : Place) (label : Option DefinitionLabelTree) (u : CasesTree TermData) → DefinesByFormulas least s h reads ws behind (Equals equals label u) (Refused (Proof (NotBuilt h.first)))
