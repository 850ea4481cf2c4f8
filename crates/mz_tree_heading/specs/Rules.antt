-- The rules beside the alternatives of the grammar, for headings of definitions.
use Rattle.std.specs.Prelude.{Bool, true, false}
use Rattle.mz_tree.specs.Trees.{FormulaData, DisjunctionData, ConjunctionData, UnitData, QuantifiedData, NextConjunctionList, NextUnitList, PlainFormula, ImpliesFormula, IffFormula, ChainDisjunction, OrNextConjunction, ChainConjunction, AndNextUnit, NotUnit, ContradictionUnit, ThesisUnit, QuantifiedUnit, GroupUnit, PrivateUnit, PrivateWithUnit, PredicateUnit, PredicateRightUnit, PredicateLeftUnit, PredicateBothUnit, IsTypeUnit, IsAdjectivesUnit, ForQuantified, ForSuchQuantified, ForFurtherQuantified, ForSuchFurtherQuantified, ExistsQuantified, no_next_conjunctions, more_next_conjunctions, no_next_units, more_next_units}
use Rattle.mz_tree.specs.Rules.{IsTerm, IsType, IsFormula, ends_in_terms, IfAny}
use Rattle.mz_tree.specs.Lists.{AreDivided}
use Rattle.mz_tree_heading.specs.declared.heading.ResultTree.{ResultTree}
use Rattle.mz_tree_heading.specs.declared.meaning.CaseTree.{CaseTree}
use Rattle.mz_tree_heading.specs.declared.meaning.OtherwiseTree.{OtherwiseTree}
use Rattle.mz_tree_heading.specs.declared.meaning.CasesTree.{CasesTree}
use Rattle.mz_tree_heading.specs.declared.meaning.CasesTree.TheVariants as cases_tree
use Rattle.mz_tree_heading.specs.declared.meaning.MeaningTree.{MeaningTree}
use Rattle.mz_tree_heading.specs.declared.meaning.MeaningTree.TheVariants as meaning_tree
use Rattle.mz_tree_heading.specs.declared.structure.FieldTree.{FieldTree}
use Rattle.mz_tree_heading.specs.declared.structure.AncestorsTree.{AncestorsTree}
use Rattle.mz_tree_heading.specs.declared.structure.StructureTree.{StructureTree}
use Rattle.mz_tree_heading.specs.declared.heading.FunctorHeadingTree.{FunctorHeadingTree}
use Rattle.mz_tree_heading.specs.declared.heading.PredicateHeadingTree.{PredicateHeadingTree}
use Rattle.mz_tree_heading.specs.declared.heading.AttributeHeadingTree.{AttributeHeadingTree}
use Rattle.mz_tree_heading.specs.declared.heading.ModeHeadingTree.{ModeHeadingTree}
use Rattle.mz_tree_heading.specs.declared.heading.AbbreviationTree.{AbbreviationTree}
use Rattle.mz_tree_heading.specs.declared.heading.HeadingTree.{HeadingTree}
use Rattle.mz_tree_heading.specs.declared.heading.HeadingTree.TheVariants as heading_tree

-- A list of terms stands last in the formula, which a list comma goes on.
abbrev mutual
  pub formula_ends_in_terms : FormulaData → Bool
  formula_ends_in_terms (PlainFormula d) = disjunction_ends_in_terms d
  formula_ends_in_terms (ImpliesFormula d p e) = disjunction_ends_in_terms e
  formula_ends_in_terms (IffFormula d p e) = disjunction_ends_in_terms e

  pub disjunction_ends_in_terms : DisjunctionData → Bool
  disjunction_ends_in_terms (ChainDisjunction c cs) = last_conjunction_ends_in_terms (conjunction_ends_in_terms c) cs

  -- the last operand of a chain, given what the one before says
  pub last_conjunction_ends_in_terms : Bool → NextConjunctionList → Bool
  last_conjunction_ends_in_terms b no_next_conjunctions = b
  last_conjunction_ends_in_terms b (more_next_conjunctions (OrNextConjunction p d) ds) = last_conjunction_ends_in_terms (conjunction_ends_in_terms d) ds

  pub conjunction_ends_in_terms : ConjunctionData → Bool
  conjunction_ends_in_terms (ChainConjunction u us) = last_unit_ends_in_terms (unit_ends_in_terms u) us

  pub last_unit_ends_in_terms : Bool → NextUnitList → Bool
  last_unit_ends_in_terms b no_next_units = b
  last_unit_ends_in_terms b (more_next_units (AndNextUnit p v) vs) = last_unit_ends_in_terms (unit_ends_in_terms v) vs

  pub unit_ends_in_terms : UnitData → Bool
  unit_ends_in_terms (NotUnit p u) = unit_ends_in_terms u
  unit_ends_in_terms (ContradictionUnit a) = false
  unit_ends_in_terms (ThesisUnit a) = false
  unit_ends_in_terms (QuantifiedUnit q) = quantified_ends_in_terms q
  unit_ends_in_terms (GroupUnit a b c) = false
  unit_ends_in_terms (PrivateUnit a b c) = false
  unit_ends_in_terms (PrivateWithUnit a b c d) = false
  unit_ends_in_terms (PredicateUnit a) = false
  unit_ends_in_terms (PredicateRightUnit a b) = true
  unit_ends_in_terms (PredicateLeftUnit a b) = false
  unit_ends_in_terms (PredicateBothUnit a b c) = true
  unit_ends_in_terms (IsTypeUnit a b t) = ends_in_terms t
  unit_ends_in_terms (IsAdjectivesUnit a b c d) = false

  pub quantified_ends_in_terms : QuantifiedData → Bool
  quantified_ends_in_terms (ForQuantified a b c d f) = formula_ends_in_terms f
  quantified_ends_in_terms (ForSuchQuantified a b c d e g f) = formula_ends_in_terms f
  quantified_ends_in_terms (ForFurtherQuantified a b c q) = quantified_ends_in_terms q
  quantified_ends_in_terms (ForSuchFurtherQuantified a b c d e q) = quantified_ends_in_terms q
  quantified_ends_in_terms (ExistsQuantified a b c d f) = formula_ends_in_terms f

abbrev pub IsResult : ResultTree → Type 0
IsResult a = IsType false a.ty

abbrev pub IsCase : {X : Type 0} → (X → Type 0) → CaseTree X → Type 0
IsCase Is a = Is a.body × IsFormula false a.condition

abbrev pub case_ends_in_terms : {X : Type 0} → CaseTree X → Bool
case_ends_in_terms a = formula_ends_in_terms a.condition

abbrev pub IsOtherwise : {X : Type 0} → (X → Type 0) → OtherwiseTree X → Type 0
IsOtherwise Is a = Is a.body

abbrev pub AreCases : {X : Type 0} → (X → Type 0) → CasesTree X → Type 0
AreCases Is (cases_tree.Plain a) = Is a
AreCases Is (cases_tree.Cases a b) = AreDivided (IsCase Is) case_ends_in_terms a × IfAny (IsOtherwise Is) b

abbrev pub IsMeaning : MeaningTree → Type 0
IsMeaning (meaning_tree.Means p l a) = AreCases (IsFormula false) a
IsMeaning (meaning_tree.Equals p l a) = AreCases (IsTerm false) a

-- `equals` stands only in the definition of a functor
abbrev pub IsMeans : MeaningTree → Type 0
IsMeans (meaning_tree.Means p l a) = AreCases (IsFormula false) a
IsMeans (meaning_tree.Equals p l a) = ⊥

-- in a field's type a selector may stand without `of`
abbrev pub IsField : FieldTree → Type 0
IsField a = IsType true a.ty

abbrev pub field_ends_in_terms : FieldTree → Bool
field_ends_in_terms a = ends_in_terms a.ty

abbrev pub AreAncestors : AncestorsTree → Type 0
AreAncestors a = AreDivided (IsType false) ends_in_terms a.types

abbrev pub IsStructure : StructureTree → Type 0
IsStructure a = IfAny AreAncestors a.ancestors × AreDivided IsField field_ends_in_terms a.fields

abbrev pub IsFunctorHeading : {X : Type 0} → (X → Type 0) → FunctorHeadingTree X → Type 0
IsFunctorHeading Is a = IfAny IsResult a.result × Is a.meaning

abbrev pub IsPredicateHeading : {X : Type 0} → (X → Type 0) → PredicateHeadingTree X → Type 0
IsPredicateHeading Is a = Is a.meaning

abbrev pub IsAttributeHeading : {X : Type 0} → (X → Type 0) → AttributeHeadingTree X → Type 0
IsAttributeHeading Is a = Is a.meaning

abbrev pub IsModeHeading : {X : Type 0} → (X → Type 0) → ModeHeadingTree X → Type 0
IsModeHeading Is a = IfAny IsResult a.result × Is a.meaning

abbrev pub IsAbbreviation : AbbreviationTree → Type 0
IsAbbreviation a = IsType false a.ty

abbrev pub IsHeading : HeadingTree → Type 0
IsHeading (heading_tree.Functor a) = IsFunctorHeading IsMeaning a
IsHeading (heading_tree.Predicate a) = IsPredicateHeading IsMeans a
IsHeading (heading_tree.Attribute a) = IsAttributeHeading IsMeans a
IsHeading (heading_tree.Mode a) = IsModeHeading IsMeans a
IsHeading (heading_tree.Abbreviation a) = IsAbbreviation a
IsHeading (heading_tree.Structure a) = IsStructure a
IsHeading (heading_tree.RedefinedFunctor p a) = IsFunctorHeading (IfAny IsMeaning) a
IsHeading (heading_tree.RedefinedPredicate p a) = IsPredicateHeading (IfAny IsMeans) a
IsHeading (heading_tree.RedefinedAttribute p a) = IsAttributeHeading (IfAny IsMeans) a
IsHeading (heading_tree.RedefinedMode p a) = IsModeHeading (IfAny IsMeans) a
