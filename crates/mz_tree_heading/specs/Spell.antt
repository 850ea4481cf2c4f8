-- The spelling of headings of definitions: one case for each alternative of the grammar.
use Rattle.std.specs.Prelude.{List, [], ◌∷◌, ◌++◌, codes}
use Rattle.mz_base.specs.declared.symbol_kind.SymbolKind.TheVariants as symbols
use Rattle.mz_base.specs.declared.token.MarkedToken.{MarkedToken}
use Rattle.mz_tree.specs.Spelled.{reserved, special, identifier, symbol, functor, mode, maybe}
use Rattle.mz_tree.specs.Spell.{spell_formula, spell_term, spell_type}
use Rattle.mz_tree.specs.Lists.{spell_separated}
use Rattle.mz_tree_heading.specs.declared.patterns.IdentifierTree.{IdentifierTree}
use Rattle.mz_tree_heading.specs.declared.structure.SelectorTree.{SelectorTree}
use Rattle.mz_tree_heading.specs.declared.heading.ResultTree.{ResultTree}
use Rattle.mz_tree_heading.specs.declared.patterns.LociTree.{LociTree}
use Rattle.mz_tree_heading.specs.declared.patterns.LociTree.TheVariants as loci_tree
use Rattle.mz_tree_heading.specs.declared.patterns.SymbolPatternTree.{SymbolPatternTree}
use Rattle.mz_tree_heading.specs.declared.patterns.FunctorPatternTree.{FunctorPatternTree}
use Rattle.mz_tree_heading.specs.declared.patterns.FunctorPatternTree.TheVariants as functor_pattern_tree
use Rattle.mz_tree_heading.specs.declared.patterns.PredicatePatternTree.{PredicatePatternTree}
use Rattle.mz_tree_heading.specs.declared.patterns.AttributePatternTree.{AttributePatternTree}
use Rattle.mz_tree_heading.specs.declared.patterns.ModeLociTree.{ModeLociTree}
use Rattle.mz_tree_heading.specs.declared.patterns.ModePatternTree.{ModePatternTree}
use Rattle.mz_tree_heading.specs.declared.patterns.PatternTree.{PatternTree}
use Rattle.mz_tree_heading.specs.declared.patterns.PatternTree.TheVariants as pattern_tree
use Rattle.mz_tree_heading.specs.declared.meaning.DefinitionLabelTree.{DefinitionLabelTree}
use Rattle.mz_tree_heading.specs.declared.meaning.CaseTree.{CaseTree}
use Rattle.mz_tree_heading.specs.declared.meaning.OtherwiseTree.{OtherwiseTree}
use Rattle.mz_tree_heading.specs.declared.meaning.CasesTree.{CasesTree}
use Rattle.mz_tree_heading.specs.declared.meaning.CasesTree.TheVariants as cases_tree
use Rattle.mz_tree_heading.specs.declared.meaning.MeaningTree.{MeaningTree}
use Rattle.mz_tree_heading.specs.declared.meaning.MeaningTree.TheVariants as meaning_tree
use Rattle.mz_tree_heading.specs.declared.structure.FieldTree.{FieldTree}
use Rattle.mz_tree_heading.specs.declared.structure.AncestorsTree.{AncestorsTree}
use Rattle.mz_tree_heading.specs.declared.structure.StructureLociTree.{StructureLociTree}
use Rattle.mz_tree_heading.specs.declared.structure.StructureTree.{StructureTree}
use Rattle.mz_tree_heading.specs.declared.heading.FunctorHeadingTree.{FunctorHeadingTree}
use Rattle.mz_tree_heading.specs.declared.heading.PredicateHeadingTree.{PredicateHeadingTree}
use Rattle.mz_tree_heading.specs.declared.heading.AttributeHeadingTree.{AttributeHeadingTree}
use Rattle.mz_tree_heading.specs.declared.heading.ModeHeadingTree.{ModeHeadingTree}
use Rattle.mz_tree_heading.specs.declared.heading.AbbreviationTree.{AbbreviationTree}
use Rattle.mz_tree_heading.specs.declared.heading.HeadingTree.{HeadingTree}
use Rattle.mz_tree_heading.specs.declared.heading.HeadingTree.TheVariants as heading_tree

abbrev pub spell_identifier : IdentifierTree → List MarkedToken
spell_identifier a = identifier a.name ∷ []

abbrev pub spell_selector : SelectorTree → List MarkedToken
spell_selector a = symbol symbols.Selector a.symbol ∷ []

abbrev pub spell_result : ResultTree → List MarkedToken
spell_result a = special a.arrow (codes "->") ∷ spell_type a.ty

abbrev pub spell_loci : LociTree → List MarkedToken
spell_loci (loci_tree.One name) = identifier name ∷ []
spell_loci (loci_tree.Several left identifiers right) = special left (codes "(") ∷ spell_separated spell_identifier identifiers ++ special right (codes ")") ∷ []

abbrev pub spell_symbol_pattern : SymbolPatternTree → List MarkedToken
spell_symbol_pattern a = maybe spell_loci a.left ++ functor a.symbol a.priority ∷ maybe spell_loci a.right

abbrev pub spell_functor_pattern : FunctorPatternTree → List MarkedToken
spell_functor_pattern (functor_pattern_tree.Symbol pattern) = spell_symbol_pattern pattern
spell_functor_pattern (functor_pattern_tree.Brackets left identifiers right) = symbol symbols.LeftBracket left ∷ spell_separated spell_identifier identifiers ++ symbol symbols.RightBracket right ∷ []
spell_functor_pattern (functor_pattern_tree.Braces left identifiers right) = special left (codes "{") ∷ spell_separated spell_identifier identifiers ++ special right (codes "}") ∷ []
spell_functor_pattern (functor_pattern_tree.Squares left identifiers right) = special left (codes "[") ∷ spell_separated spell_identifier identifiers ++ special right (codes "]") ∷ []

abbrev pub spell_predicate_pattern : PredicatePatternTree → List MarkedToken
spell_predicate_pattern a = maybe (spell_separated spell_identifier) a.left ++ symbol symbols.Predicate a.symbol ∷ maybe (spell_separated spell_identifier) a.right

abbrev pub spell_attribute_pattern : AttributePatternTree → List MarkedToken
spell_attribute_pattern a = identifier a.subject ∷ reserved a.is (codes "is") ∷ maybe spell_loci a.loci ++ symbol symbols.Attribute a.symbol ∷ []

abbrev pub spell_mode_loci : ModeLociTree → List MarkedToken
spell_mode_loci a = reserved a.of (codes "of") ∷ spell_separated spell_identifier a.identifiers

abbrev pub spell_mode_pattern : ModePatternTree → List MarkedToken
spell_mode_pattern a = mode a.symbol ∷ maybe spell_mode_loci a.loci

abbrev pub spell_pattern : PatternTree → List MarkedToken
spell_pattern (pattern_tree.Functor pattern) = spell_functor_pattern pattern
spell_pattern (pattern_tree.Predicate pattern) = spell_predicate_pattern pattern
spell_pattern (pattern_tree.Attribute pattern) = spell_attribute_pattern pattern
spell_pattern (pattern_tree.Mode pattern) = spell_mode_pattern pattern

abbrev pub spell_definition_label : DefinitionLabelTree → List MarkedToken
spell_definition_label a = special a.left (codes ":") ∷ identifier a.name ∷ special a.right (codes ":") ∷ []

abbrev pub spell_case : {X : Type 0} → (X → List MarkedToken) → CaseTree X → List MarkedToken
spell_case f a = f a.body ++ reserved a.if_ (codes "if") ∷ spell_formula a.condition

abbrev pub spell_otherwise : {X : Type 0} → (X → List MarkedToken) → OtherwiseTree X → List MarkedToken
spell_otherwise f a = reserved a.otherwise (codes "otherwise") ∷ f a.body

abbrev pub spell_cases : {X : Type 0} → (X → List MarkedToken) → CasesTree X → List MarkedToken
spell_cases f (cases_tree.Plain body) = f body
spell_cases f (cases_tree.Cases cases otherwise) = spell_separated (spell_case f) cases ++ maybe (spell_otherwise f) otherwise

abbrev pub spell_meaning : MeaningTree → List MarkedToken
spell_meaning (meaning_tree.Means means label cases) = reserved means (codes "means") ∷ maybe spell_definition_label label ++ spell_cases spell_formula cases
spell_meaning (meaning_tree.Equals equals label cases) = reserved equals (codes "equals") ∷ maybe spell_definition_label label ++ spell_cases spell_term cases

abbrev pub spell_field : FieldTree → List MarkedToken
spell_field a = spell_separated spell_selector a.selectors ++ special a.arrow (codes "->") ∷ spell_type a.ty

abbrev pub spell_ancestors : AncestorsTree → List MarkedToken
spell_ancestors a = special a.left (codes "(") ∷ spell_separated spell_type a.types ++ special a.right (codes ")") ∷ []

abbrev pub spell_structure_loci : StructureLociTree → List MarkedToken
spell_structure_loci a = reserved a.over (codes "over") ∷ spell_separated spell_identifier a.identifiers

abbrev pub spell_structure : StructureTree → List MarkedToken
spell_structure a = reserved a.struct_ (codes "struct") ∷ maybe spell_ancestors a.ancestors ++ symbol symbols.Structure a.symbol ∷ maybe spell_structure_loci a.loci ++ special a.left (codes "(#") ∷ spell_separated spell_field a.fields ++ special a.right (codes "#)") ∷ special a.semicolon (codes ";") ∷ []

abbrev pub spell_functor_heading : {X : Type 0} → (X → List MarkedToken) → FunctorHeadingTree X → List MarkedToken
spell_functor_heading f a = reserved a.func (codes "func") ∷ spell_functor_pattern a.pattern ++ maybe spell_result a.result ++ f a.meaning ++ special a.semicolon (codes ";") ∷ []

abbrev pub spell_predicate_heading : {X : Type 0} → (X → List MarkedToken) → PredicateHeadingTree X → List MarkedToken
spell_predicate_heading f a = reserved a.pred (codes "pred") ∷ spell_predicate_pattern a.pattern ++ f a.meaning ++ special a.semicolon (codes ";") ∷ []

abbrev pub spell_attribute_heading : {X : Type 0} → (X → List MarkedToken) → AttributeHeadingTree X → List MarkedToken
spell_attribute_heading f a = reserved a.attr (codes "attr") ∷ spell_attribute_pattern a.pattern ++ f a.meaning ++ special a.semicolon (codes ";") ∷ []

abbrev pub spell_mode_heading : {X : Type 0} → (X → List MarkedToken) → ModeHeadingTree X → List MarkedToken
spell_mode_heading f a = reserved a.mode (codes "mode") ∷ spell_mode_pattern a.pattern ++ maybe spell_result a.result ++ f a.meaning ++ special a.semicolon (codes ";") ∷ []

abbrev pub spell_abbreviation : AbbreviationTree → List MarkedToken
spell_abbreviation a = reserved a.mode (codes "mode") ∷ spell_mode_pattern a.pattern ++ reserved a.is (codes "is") ∷ spell_type a.ty ++ special a.semicolon (codes ";") ∷ []

abbrev pub spell_heading : HeadingTree → List MarkedToken
spell_heading (heading_tree.Functor heading) = spell_functor_heading spell_meaning heading
spell_heading (heading_tree.Predicate heading) = spell_predicate_heading spell_meaning heading
spell_heading (heading_tree.Attribute heading) = spell_attribute_heading spell_meaning heading
spell_heading (heading_tree.Mode heading) = spell_mode_heading spell_meaning heading
spell_heading (heading_tree.Abbreviation heading) = spell_abbreviation heading
spell_heading (heading_tree.Structure heading) = spell_structure heading
spell_heading (heading_tree.RedefinedFunctor redefine heading) = reserved redefine (codes "redefine") ∷ spell_functor_heading (maybe spell_meaning) heading
spell_heading (heading_tree.RedefinedPredicate redefine heading) = reserved redefine (codes "redefine") ∷ spell_predicate_heading (maybe spell_meaning) heading
spell_heading (heading_tree.RedefinedAttribute redefine heading) = reserved redefine (codes "redefine") ∷ spell_attribute_heading (maybe spell_meaning) heading
spell_heading (heading_tree.RedefinedMode redefine heading) = reserved redefine (codes "redefine") ∷ spell_mode_heading (maybe spell_meaning) heading
