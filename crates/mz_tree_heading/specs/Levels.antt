-- How many constructs are open at each token of headings of definitions. A bracket counts from its opening token up to the one before its
-- closing token.
use Rattle.std.specs.Prelude.{ℕ, suc, List, [], ◌∷◌, ◌++◌, map}
use Rattle.mz_tree.specs.Spelled.{maybe}
use Rattle.mz_tree.specs.Levels.{levels_formula, levels_term, levels_type}
use Rattle.mz_tree.specs.Lists.{levels_separated}
use Rattle.mz_tree_heading.specs.declared.patterns.IdentifierTree.{IdentifierTree}
use Rattle.mz_tree_heading.specs.declared.structure.SelectorTree.{SelectorTree}
use Rattle.mz_tree_heading.specs.declared.heading.ResultTree.{ResultTree}
use Rattle.mz_tree_heading.specs.declared.patterns.LociTree.{LociTree}
use Rattle.mz_tree_heading.specs.declared.patterns.LociTree.TheVariants as loci_tree
use Rattle.mz_tree_heading.specs.declared.patterns.SymbolPatternTree.{SymbolPatternTree}
use Rattle.mz_tree_heading.specs.declared.patterns.FunctorPatternTree.{FunctorPatternTree}
use Rattle.mz_tree_heading.specs.declared.patterns.FunctorPatternTree.TheVariants as functor_pattern_tree
use Rattle.mz_tree_heading.specs.declared.patterns.PredicatePatternTree.{PredicatePatternTree}
use Rattle.mz_tree_heading.specs.declared.patterns.AttributePatternTree.{AttributePatternTree}
use Rattle.mz_tree_heading.specs.declared.patterns.ModeLociTree.{ModeLociTree}
use Rattle.mz_tree_heading.specs.declared.patterns.ModePatternTree.{ModePatternTree}
use Rattle.mz_tree_heading.specs.declared.patterns.PatternTree.{PatternTree}
use Rattle.mz_tree_heading.specs.declared.patterns.PatternTree.TheVariants as pattern_tree
use Rattle.mz_tree_heading.specs.declared.meaning.DefinitionLabelTree.{DefinitionLabelTree}
use Rattle.mz_tree_heading.specs.declared.meaning.CaseTree.{CaseTree}
use Rattle.mz_tree_heading.specs.declared.meaning.OtherwiseTree.{OtherwiseTree}
use Rattle.mz_tree_heading.specs.declared.meaning.CasesTree.{CasesTree}
use Rattle.mz_tree_heading.specs.declared.meaning.CasesTree.TheVariants as cases_tree
use Rattle.mz_tree_heading.specs.declared.meaning.MeaningTree.{MeaningTree}
use Rattle.mz_tree_heading.specs.declared.meaning.MeaningTree.TheVariants as meaning_tree
use Rattle.mz_tree_heading.specs.declared.structure.FieldTree.{FieldTree}
use Rattle.mz_tree_heading.specs.declared.structure.AncestorsTree.{AncestorsTree}
use Rattle.mz_tree_heading.specs.declared.structure.StructureLociTree.{StructureLociTree}
use Rattle.mz_tree_heading.specs.declared.structure.StructureTree.{StructureTree}
use Rattle.mz_tree_heading.specs.declared.heading.FunctorHeadingTree.{FunctorHeadingTree}
use Rattle.mz_tree_heading.specs.declared.heading.PredicateHeadingTree.{PredicateHeadingTree}
use Rattle.mz_tree_heading.specs.declared.heading.AttributeHeadingTree.{AttributeHeadingTree}
use Rattle.mz_tree_heading.specs.declared.heading.ModeHeadingTree.{ModeHeadingTree}
use Rattle.mz_tree_heading.specs.declared.heading.AbbreviationTree.{AbbreviationTree}
use Rattle.mz_tree_heading.specs.declared.heading.HeadingTree.{HeadingTree}
use Rattle.mz_tree_heading.specs.declared.heading.HeadingTree.TheVariants as heading_tree

abbrev pub levels_identifier : IdentifierTree → List ℕ
levels_identifier a = 0 ∷ []

abbrev pub levels_selector : SelectorTree → List ℕ
levels_selector a = 0 ∷ []

abbrev pub levels_result : ResultTree → List ℕ
levels_result a = 0 ∷ levels_type a.ty

abbrev pub levels_loci : LociTree → List ℕ
levels_loci (loci_tree.One name) = 0 ∷ []
levels_loci (loci_tree.Several left identifiers right) = 1 ∷ map suc (levels_separated levels_identifier identifiers) ++ 0 ∷ []

abbrev pub levels_symbol_pattern : SymbolPatternTree → List ℕ
levels_symbol_pattern a = maybe levels_loci a.left ++ 0 ∷ maybe levels_loci a.right

abbrev pub levels_functor_pattern : FunctorPatternTree → List ℕ
levels_functor_pattern (functor_pattern_tree.Symbol pattern) = levels_symbol_pattern pattern
levels_functor_pattern (functor_pattern_tree.Brackets left identifiers right) = 1 ∷ map suc (levels_separated levels_identifier identifiers) ++ 0 ∷ []
levels_functor_pattern (functor_pattern_tree.Braces left identifiers right) = 1 ∷ map suc (levels_separated levels_identifier identifiers) ++ 0 ∷ []
levels_functor_pattern (functor_pattern_tree.Squares left identifiers right) = 1 ∷ map suc (levels_separated levels_identifier identifiers) ++ 0 ∷ []

abbrev pub levels_predicate_pattern : PredicatePatternTree → List ℕ
levels_predicate_pattern a = maybe (levels_separated levels_identifier) a.left ++ 0 ∷ maybe (levels_separated levels_identifier) a.right

abbrev pub levels_attribute_pattern : AttributePatternTree → List ℕ
levels_attribute_pattern a = 0 ∷ 0 ∷ maybe levels_loci a.loci ++ 0 ∷ []

abbrev pub levels_mode_loci : ModeLociTree → List ℕ
levels_mode_loci a = 0 ∷ levels_separated levels_identifier a.identifiers

abbrev pub levels_mode_pattern : ModePatternTree → List ℕ
levels_mode_pattern a = 0 ∷ maybe levels_mode_loci a.loci

abbrev pub levels_pattern : PatternTree → List ℕ
levels_pattern (pattern_tree.Functor pattern) = levels_functor_pattern pattern
levels_pattern (pattern_tree.Predicate pattern) = levels_predicate_pattern pattern
levels_pattern (pattern_tree.Attribute pattern) = levels_attribute_pattern pattern
levels_pattern (pattern_tree.Mode pattern) = levels_mode_pattern pattern

abbrev pub levels_definition_label : DefinitionLabelTree → List ℕ
levels_definition_label a = 0 ∷ 0 ∷ 0 ∷ []

abbrev pub levels_case : {X : Type 0} → (X → List ℕ) → CaseTree X → List ℕ
levels_case f a = f a.body ++ 0 ∷ levels_formula a.condition

abbrev pub levels_otherwise : {X : Type 0} → (X → List ℕ) → OtherwiseTree X → List ℕ
levels_otherwise f a = 0 ∷ f a.body

abbrev pub levels_cases : {X : Type 0} → (X → List ℕ) → CasesTree X → List ℕ
levels_cases f (cases_tree.Plain body) = f body
levels_cases f (cases_tree.Cases cases otherwise) = levels_separated (levels_case f) cases ++ maybe (levels_otherwise f) otherwise

abbrev pub levels_meaning : MeaningTree → List ℕ
levels_meaning (meaning_tree.Means means label cases) = 0 ∷ maybe levels_definition_label label ++ levels_cases levels_formula cases
levels_meaning (meaning_tree.Equals equals label cases) = 0 ∷ maybe levels_definition_label label ++ levels_cases levels_term cases

abbrev pub levels_field : FieldTree → List ℕ
levels_field a = levels_separated levels_selector a.selectors ++ 0 ∷ levels_type a.ty

abbrev pub levels_ancestors : AncestorsTree → List ℕ
levels_ancestors a = 1 ∷ map suc (levels_separated levels_type a.types) ++ 0 ∷ []

abbrev pub levels_structure_loci : StructureLociTree → List ℕ
levels_structure_loci a = 0 ∷ levels_separated levels_identifier a.identifiers

abbrev pub levels_structure : StructureTree → List ℕ
levels_structure a = 0 ∷ maybe levels_ancestors a.ancestors ++ 0 ∷ maybe levels_structure_loci a.loci ++ 1 ∷ map suc (levels_separated levels_field a.fields) ++ 0 ∷ 0 ∷ []

abbrev pub levels_functor_heading : {X : Type 0} → (X → List ℕ) → FunctorHeadingTree X → List ℕ
levels_functor_heading f a = 0 ∷ levels_functor_pattern a.pattern ++ maybe levels_result a.result ++ f a.meaning ++ 0 ∷ []

abbrev pub levels_predicate_heading : {X : Type 0} → (X → List ℕ) → PredicateHeadingTree X → List ℕ
levels_predicate_heading f a = 0 ∷ levels_predicate_pattern a.pattern ++ f a.meaning ++ 0 ∷ []

abbrev pub levels_attribute_heading : {X : Type 0} → (X → List ℕ) → AttributeHeadingTree X → List ℕ
levels_attribute_heading f a = 0 ∷ levels_attribute_pattern a.pattern ++ f a.meaning ++ 0 ∷ []

abbrev pub levels_mode_heading : {X : Type 0} → (X → List ℕ) → ModeHeadingTree X → List ℕ
levels_mode_heading f a = 0 ∷ levels_mode_pattern a.pattern ++ maybe levels_result a.result ++ f a.meaning ++ 0 ∷ []

abbrev pub levels_abbreviation : AbbreviationTree → List ℕ
levels_abbreviation a = 0 ∷ levels_mode_pattern a.pattern ++ 0 ∷ levels_type a.ty ++ 0 ∷ []

abbrev pub levels_heading : HeadingTree → List ℕ
levels_heading (heading_tree.Functor heading) = levels_functor_heading levels_meaning heading
levels_heading (heading_tree.Predicate heading) = levels_predicate_heading levels_meaning heading
levels_heading (heading_tree.Attribute heading) = levels_attribute_heading levels_meaning heading
levels_heading (heading_tree.Mode heading) = levels_mode_heading levels_meaning heading
levels_heading (heading_tree.Abbreviation heading) = levels_abbreviation heading
levels_heading (heading_tree.Structure heading) = levels_structure heading
levels_heading (heading_tree.RedefinedFunctor redefine heading) = 0 ∷ levels_functor_heading (maybe levels_meaning) heading
levels_heading (heading_tree.RedefinedPredicate redefine heading) = 0 ∷ levels_predicate_heading (maybe levels_meaning) heading
levels_heading (heading_tree.RedefinedAttribute redefine heading) = 0 ∷ levels_attribute_heading (maybe levels_meaning) heading
levels_heading (heading_tree.RedefinedMode redefine heading) = 0 ∷ levels_mode_heading (maybe levels_meaning) heading
