-- There is one level for each token of headings of definitions.
use Rattle.std.specs.Prelude.{◌≡◌, ℕ, suc, List, [], ◌∷◌, ◌++◌, map, length, refl, codes}
use Rattle.std.proofs.Common.{ap}
use Rattle.mz_base.specs.declared.symbol_kind.SymbolKind.TheVariants as symbols
use Rattle.mz_forms.specs.Form.{each_append}
use Rattle.mz_base.specs.declared.token.MarkedToken.{MarkedToken}
use Rattle.mz_tree.specs.Spelled.{reserved, special, identifier, symbol, functor, mode, maybe}
use Rattle.mz_tree.specs.Levels.{levels_formula, levels_term, levels_type, each_maybe, each_formula, each_term, each_type, nested_each}
use Rattle.mz_tree.specs.Spell.{spell_formula, spell_term, spell_type}
use Rattle.mz_tree.specs.Lists.{spell_separated, levels_separated, each_separated}
use Rattle.mz_tree_heading.specs.Spell.{spell_identifier, spell_selector, spell_result, spell_loci, spell_symbol_pattern, spell_functor_pattern, spell_predicate_pattern, spell_attribute_pattern, spell_mode_loci, spell_mode_pattern, spell_pattern, spell_definition_label, spell_case, spell_otherwise, spell_cases, spell_meaning, spell_field, spell_ancestors, spell_structure_loci, spell_structure, spell_functor_heading, spell_predicate_heading, spell_attribute_heading, spell_mode_heading, spell_abbreviation, spell_heading}
use Rattle.mz_tree_heading.specs.Levels.{levels_identifier, levels_selector, levels_result, levels_loci, levels_symbol_pattern, levels_functor_pattern, levels_predicate_pattern, levels_attribute_pattern, levels_mode_loci, levels_mode_pattern, levels_pattern, levels_definition_label, levels_case, levels_otherwise, levels_cases, levels_meaning, levels_field, levels_ancestors, levels_structure_loci, levels_structure, levels_functor_heading, levels_predicate_heading, levels_attribute_heading, levels_mode_heading, levels_abbreviation, levels_heading}
use Rattle.mz_tree_heading.specs.declared.patterns.IdentifierTree.{IdentifierTree}
use Rattle.mz_tree_heading.specs.declared.structure.SelectorTree.{SelectorTree}
use Rattle.mz_tree_heading.specs.declared.heading.ResultTree.{ResultTree}
use Rattle.mz_tree_heading.specs.declared.patterns.LociTree.{LociTree}
use Rattle.mz_tree_heading.specs.declared.patterns.LociTree.TheVariants as loci_tree
use Rattle.mz_tree_heading.specs.declared.patterns.SymbolPatternTree.{SymbolPatternTree}
use Rattle.mz_tree_heading.specs.declared.patterns.FunctorPatternTree.{FunctorPatternTree}
use Rattle.mz_tree_heading.specs.declared.patterns.FunctorPatternTree.TheVariants as functor_pattern_tree
use Rattle.mz_tree_heading.specs.declared.patterns.PredicatePatternTree.{PredicatePatternTree}
use Rattle.mz_tree_heading.specs.declared.patterns.AttributePatternTree.{AttributePatternTree}
use Rattle.mz_tree_heading.specs.declared.patterns.ModeLociTree.{ModeLociTree}
use Rattle.mz_tree_heading.specs.declared.patterns.ModePatternTree.{ModePatternTree}
use Rattle.mz_tree_heading.specs.declared.patterns.PatternTree.{PatternTree}
use Rattle.mz_tree_heading.specs.declared.patterns.PatternTree.TheVariants as pattern_tree
use Rattle.mz_tree_heading.specs.declared.meaning.DefinitionLabelTree.{DefinitionLabelTree}
use Rattle.mz_tree_heading.specs.declared.meaning.CaseTree.{CaseTree}
use Rattle.mz_tree_heading.specs.declared.meaning.OtherwiseTree.{OtherwiseTree}
use Rattle.mz_tree_heading.specs.declared.meaning.CasesTree.{CasesTree}
use Rattle.mz_tree_heading.specs.declared.meaning.CasesTree.TheVariants as cases_tree
use Rattle.mz_tree_heading.specs.declared.meaning.MeaningTree.{MeaningTree}
use Rattle.mz_tree_heading.specs.declared.meaning.MeaningTree.TheVariants as meaning_tree
use Rattle.mz_tree_heading.specs.declared.structure.FieldTree.{FieldTree}
use Rattle.mz_tree_heading.specs.declared.structure.AncestorsTree.{AncestorsTree}
use Rattle.mz_tree_heading.specs.declared.structure.StructureLociTree.{StructureLociTree}
use Rattle.mz_tree_heading.specs.declared.structure.StructureTree.{StructureTree}
use Rattle.mz_tree_heading.specs.declared.heading.FunctorHeadingTree.{FunctorHeadingTree}
use Rattle.mz_tree_heading.specs.declared.heading.PredicateHeadingTree.{PredicateHeadingTree}
use Rattle.mz_tree_heading.specs.declared.heading.AttributeHeadingTree.{AttributeHeadingTree}
use Rattle.mz_tree_heading.specs.declared.heading.ModeHeadingTree.{ModeHeadingTree}
use Rattle.mz_tree_heading.specs.declared.heading.AbbreviationTree.{AbbreviationTree}
use Rattle.mz_tree_heading.specs.declared.heading.HeadingTree.{HeadingTree}
use Rattle.mz_tree_heading.specs.declared.heading.HeadingTree.TheVariants as heading_tree

pub each_identifier : (t : IdentifierTree) → length (levels_identifier t) ≡ length (spell_identifier t)
each_identifier a = refl

pub each_selector : (t : SelectorTree) → length (levels_selector t) ≡ length (spell_selector t)
each_selector a = refl

pub each_result : (t : ResultTree) → length (levels_result t) ≡ length (spell_result t)
each_result a = ap suc (each_type a.ty)

pub each_loci : (t : LociTree) → length (levels_loci t) ≡ length (spell_loci t)
each_loci (loci_tree.One name) = refl
each_loci (loci_tree.Several left identifiers right) = each_append (1 ∷ map suc (levels_separated levels_identifier identifiers)) (0 ∷ []) (special left (codes "(") ∷ spell_separated spell_identifier identifiers) (special right (codes ")") ∷ []) (ap suc (nested_each (levels_separated levels_identifier identifiers) (spell_separated spell_identifier identifiers) (each_separated levels_identifier spell_identifier each_identifier identifiers))) refl

pub each_symbol_pattern : (t : SymbolPatternTree) → length (levels_symbol_pattern t) ≡ length (spell_symbol_pattern t)
each_symbol_pattern a = each_append (maybe levels_loci a.left) (0 ∷ maybe levels_loci a.right) (maybe spell_loci a.left) (functor a.symbol a.priority ∷ maybe spell_loci a.right) (each_maybe levels_loci spell_loci each_loci a.left) (ap suc (each_maybe levels_loci spell_loci each_loci a.right))

pub each_functor_pattern : (t : FunctorPatternTree) → length (levels_functor_pattern t) ≡ length (spell_functor_pattern t)
each_functor_pattern (functor_pattern_tree.Symbol pattern) = each_symbol_pattern pattern
each_functor_pattern (functor_pattern_tree.Brackets left identifiers right) = each_append (1 ∷ map suc (levels_separated levels_identifier identifiers)) (0 ∷ []) (symbol symbols.LeftBracket left ∷ spell_separated spell_identifier identifiers) (symbol symbols.RightBracket right ∷ []) (ap suc (nested_each (levels_separated levels_identifier identifiers) (spell_separated spell_identifier identifiers) (each_separated levels_identifier spell_identifier each_identifier identifiers))) refl
each_functor_pattern (functor_pattern_tree.Braces left identifiers right) = each_append (1 ∷ map suc (levels_separated levels_identifier identifiers)) (0 ∷ []) (special left (codes "{") ∷ spell_separated spell_identifier identifiers) (special right (codes "}") ∷ []) (ap suc (nested_each (levels_separated levels_identifier identifiers) (spell_separated spell_identifier identifiers) (each_separated levels_identifier spell_identifier each_identifier identifiers))) refl
each_functor_pattern (functor_pattern_tree.Squares left identifiers right) = each_append (1 ∷ map suc (levels_separated levels_identifier identifiers)) (0 ∷ []) (special left (codes "[") ∷ spell_separated spell_identifier identifiers) (special right (codes "]") ∷ []) (ap suc (nested_each (levels_separated levels_identifier identifiers) (spell_separated spell_identifier identifiers) (each_separated levels_identifier spell_identifier each_identifier identifiers))) refl

pub each_predicate_pattern : (t : PredicatePatternTree) → length (levels_predicate_pattern t) ≡ length (spell_predicate_pattern t)
each_predicate_pattern a = each_append (maybe (levels_separated levels_identifier) a.left) (0 ∷ maybe (levels_separated levels_identifier) a.right) (maybe (spell_separated spell_identifier) a.left) (symbol symbols.Predicate a.symbol ∷ maybe (spell_separated spell_identifier) a.right) (each_maybe (levels_separated levels_identifier) (spell_separated spell_identifier) (each_separated levels_identifier spell_identifier each_identifier) a.left) (ap suc (each_maybe (levels_separated levels_identifier) (spell_separated spell_identifier) (each_separated levels_identifier spell_identifier each_identifier) a.right))

pub each_attribute_pattern : (t : AttributePatternTree) → length (levels_attribute_pattern t) ≡ length (spell_attribute_pattern t)
each_attribute_pattern a = each_append (0 ∷ 0 ∷ maybe levels_loci a.loci) (0 ∷ []) (identifier a.subject ∷ reserved a.is (codes "is") ∷ maybe spell_loci a.loci) (symbol symbols.Attribute a.symbol ∷ []) (ap suc (ap suc (each_maybe levels_loci spell_loci each_loci a.loci))) refl

pub each_mode_loci : (t : ModeLociTree) → length (levels_mode_loci t) ≡ length (spell_mode_loci t)
each_mode_loci a = ap suc (each_separated levels_identifier spell_identifier each_identifier a.identifiers)

pub each_mode_pattern : (t : ModePatternTree) → length (levels_mode_pattern t) ≡ length (spell_mode_pattern t)
each_mode_pattern a = ap suc (each_maybe levels_mode_loci spell_mode_loci each_mode_loci a.loci)

pub each_pattern : (t : PatternTree) → length (levels_pattern t) ≡ length (spell_pattern t)
each_pattern (pattern_tree.Functor pattern) = each_functor_pattern pattern
each_pattern (pattern_tree.Predicate pattern) = each_predicate_pattern pattern
each_pattern (pattern_tree.Attribute pattern) = each_attribute_pattern pattern
each_pattern (pattern_tree.Mode pattern) = each_mode_pattern pattern

pub each_definition_label : (t : DefinitionLabelTree) → length (levels_definition_label t) ≡ length (spell_definition_label t)
each_definition_label a = refl

pub each_case : {X : Type 0} (l : X → List ℕ) (s : X → List MarkedToken) → ((x : X) → length (l x) ≡ length (s x)) → (t : CaseTree X) → length (levels_case l t) ≡ length (spell_case s t)
each_case l s e a = each_append (l a.body) (0 ∷ levels_formula a.condition) (s a.body) (reserved a.if_ (codes "if") ∷ spell_formula a.condition) (e a.body) (ap suc (each_formula a.condition))

pub each_otherwise : {X : Type 0} (l : X → List ℕ) (s : X → List MarkedToken) → ((x : X) → length (l x) ≡ length (s x)) → (t : OtherwiseTree X) → length (levels_otherwise l t) ≡ length (spell_otherwise s t)
each_otherwise l s e a = ap suc (e a.body)

pub each_cases : {X : Type 0} (l : X → List ℕ) (s : X → List MarkedToken) → ((x : X) → length (l x) ≡ length (s x)) → (t : CasesTree X) → length (levels_cases l t) ≡ length (spell_cases s t)
each_cases l s e (cases_tree.Plain body) = e body
each_cases l s e (cases_tree.Cases cases otherwise) = each_append (levels_separated (levels_case l) cases) (maybe (levels_otherwise l) otherwise) (spell_separated (spell_case s) cases) (maybe (spell_otherwise s) otherwise) (each_separated (levels_case l) (spell_case s) (each_case l s e) cases) (each_maybe (levels_otherwise l) (spell_otherwise s) (each_otherwise l s e) otherwise)

pub each_meaning : (t : MeaningTree) → length (levels_meaning t) ≡ length (spell_meaning t)
each_meaning (meaning_tree.Means means label cases) = each_append (0 ∷ maybe levels_definition_label label) (levels_cases levels_formula cases) (reserved means (codes "means") ∷ maybe spell_definition_label label) (spell_cases spell_formula cases) (ap suc (each_maybe levels_definition_label spell_definition_label each_definition_label label)) (each_cases levels_formula spell_formula each_formula cases)
each_meaning (meaning_tree.Equals equals label cases) = each_append (0 ∷ maybe levels_definition_label label) (levels_cases levels_term cases) (reserved equals (codes "equals") ∷ maybe spell_definition_label label) (spell_cases spell_term cases) (ap suc (each_maybe levels_definition_label spell_definition_label each_definition_label label)) (each_cases levels_term spell_term each_term cases)

pub each_field : (t : FieldTree) → length (levels_field t) ≡ length (spell_field t)
each_field a = each_append (levels_separated levels_selector a.selectors) (0 ∷ levels_type a.ty) (spell_separated spell_selector a.selectors) (special a.arrow (codes "->") ∷ spell_type a.ty) (each_separated levels_selector spell_selector each_selector a.selectors) (ap suc (each_type a.ty))

pub each_ancestors : (t : AncestorsTree) → length (levels_ancestors t) ≡ length (spell_ancestors t)
each_ancestors a = each_append (1 ∷ map suc (levels_separated levels_type a.types)) (0 ∷ []) (special a.left (codes "(") ∷ spell_separated spell_type a.types) (special a.right (codes ")") ∷ []) (ap suc (nested_each (levels_separated levels_type a.types) (spell_separated spell_type a.types) (each_separated levels_type spell_type each_type a.types))) refl

pub each_structure_loci : (t : StructureLociTree) → length (levels_structure_loci t) ≡ length (spell_structure_loci t)
each_structure_loci a = ap suc (each_separated levels_identifier spell_identifier each_identifier a.identifiers)

pub each_structure : (t : StructureTree) → length (levels_structure t) ≡ length (spell_structure t)
each_structure a = each_append (0 ∷ maybe levels_ancestors a.ancestors ++ 0 ∷ maybe levels_structure_loci a.loci ++ 1 ∷ map suc (levels_separated levels_field a.fields)) (0 ∷ 0 ∷ []) (reserved a.struct_ (codes "struct") ∷ maybe spell_ancestors a.ancestors ++ symbol symbols.Structure a.symbol ∷ maybe spell_structure_loci a.loci ++ special a.left (codes "(#") ∷ spell_separated spell_field a.fields) (special a.right (codes "#)") ∷ special a.semicolon (codes ";") ∷ []) (each_append (0 ∷ maybe levels_ancestors a.ancestors ++ 0 ∷ maybe levels_structure_loci a.loci) (1 ∷ map suc (levels_separated levels_field a.fields)) (reserved a.struct_ (codes "struct") ∷ maybe spell_ancestors a.ancestors ++ symbol symbols.Structure a.symbol ∷ maybe spell_structure_loci a.loci) (special a.left (codes "(#") ∷ spell_separated spell_field a.fields) (each_append (0 ∷ maybe levels_ancestors a.ancestors) (0 ∷ maybe levels_structure_loci a.loci) (reserved a.struct_ (codes "struct") ∷ maybe spell_ancestors a.ancestors) (symbol symbols.Structure a.symbol ∷ maybe spell_structure_loci a.loci) (ap suc (each_maybe levels_ancestors spell_ancestors each_ancestors a.ancestors)) (ap suc (each_maybe levels_structure_loci spell_structure_loci each_structure_loci a.loci))) (ap suc (nested_each (levels_separated levels_field a.fields) (spell_separated spell_field a.fields) (each_separated levels_field spell_field each_field a.fields)))) refl

pub each_functor_heading : {X : Type 0} (l : X → List ℕ) (s : X → List MarkedToken) → ((x : X) → length (l x) ≡ length (s x)) → (t : FunctorHeadingTree X) → length (levels_functor_heading l t) ≡ length (spell_functor_heading s t)
each_functor_heading l s e a = each_append (0 ∷ levels_functor_pattern a.pattern ++ maybe levels_result a.result ++ l a.meaning) (0 ∷ []) (reserved a.func (codes "func") ∷ spell_functor_pattern a.pattern ++ maybe spell_result a.result ++ s a.meaning) (special a.semicolon (codes ";") ∷ []) (each_append (0 ∷ levels_functor_pattern a.pattern ++ maybe levels_result a.result) (l a.meaning) (reserved a.func (codes "func") ∷ spell_functor_pattern a.pattern ++ maybe spell_result a.result) (s a.meaning) (each_append (0 ∷ levels_functor_pattern a.pattern) (maybe levels_result a.result) (reserved a.func (codes "func") ∷ spell_functor_pattern a.pattern) (maybe spell_result a.result) (ap suc (each_functor_pattern a.pattern)) (each_maybe levels_result spell_result each_result a.result)) (e a.meaning)) refl

pub each_predicate_heading : {X : Type 0} (l : X → List ℕ) (s : X → List MarkedToken) → ((x : X) → length (l x) ≡ length (s x)) → (t : PredicateHeadingTree X) → length (levels_predicate_heading l t) ≡ length (spell_predicate_heading s t)
each_predicate_heading l s e a = each_append (0 ∷ levels_predicate_pattern a.pattern ++ l a.meaning) (0 ∷ []) (reserved a.pred (codes "pred") ∷ spell_predicate_pattern a.pattern ++ s a.meaning) (special a.semicolon (codes ";") ∷ []) (each_append (0 ∷ levels_predicate_pattern a.pattern) (l a.meaning) (reserved a.pred (codes "pred") ∷ spell_predicate_pattern a.pattern) (s a.meaning) (ap suc (each_predicate_pattern a.pattern)) (e a.meaning)) refl

pub each_attribute_heading : {X : Type 0} (l : X → List ℕ) (s : X → List MarkedToken) → ((x : X) → length (l x) ≡ length (s x)) → (t : AttributeHeadingTree X) → length (levels_attribute_heading l t) ≡ length (spell_attribute_heading s t)
each_attribute_heading l s e a = each_append (0 ∷ levels_attribute_pattern a.pattern ++ l a.meaning) (0 ∷ []) (reserved a.attr (codes "attr") ∷ spell_attribute_pattern a.pattern ++ s a.meaning) (special a.semicolon (codes ";") ∷ []) (each_append (0 ∷ levels_attribute_pattern a.pattern) (l a.meaning) (reserved a.attr (codes "attr") ∷ spell_attribute_pattern a.pattern) (s a.meaning) (ap suc (each_attribute_pattern a.pattern)) (e a.meaning)) refl

pub each_mode_heading : {X : Type 0} (l : X → List ℕ) (s : X → List MarkedToken) → ((x : X) → length (l x) ≡ length (s x)) → (t : ModeHeadingTree X) → length (levels_mode_heading l t) ≡ length (spell_mode_heading s t)
each_mode_heading l s e a = each_append (0 ∷ levels_mode_pattern a.pattern ++ maybe levels_result a.result ++ l a.meaning) (0 ∷ []) (reserved a.mode (codes "mode") ∷ spell_mode_pattern a.pattern ++ maybe spell_result a.result ++ s a.meaning) (special a.semicolon (codes ";") ∷ []) (each_append (0 ∷ levels_mode_pattern a.pattern ++ maybe levels_result a.result) (l a.meaning) (reserved a.mode (codes "mode") ∷ spell_mode_pattern a.pattern ++ maybe spell_result a.result) (s a.meaning) (each_append (0 ∷ levels_mode_pattern a.pattern) (maybe levels_result a.result) (reserved a.mode (codes "mode") ∷ spell_mode_pattern a.pattern) (maybe spell_result a.result) (ap suc (each_mode_pattern a.pattern)) (each_maybe levels_result spell_result each_result a.result)) (e a.meaning)) refl

pub each_abbreviation : (t : AbbreviationTree) → length (levels_abbreviation t) ≡ length (spell_abbreviation t)
each_abbreviation a = each_append (0 ∷ levels_mode_pattern a.pattern ++ 0 ∷ levels_type a.ty) (0 ∷ []) (reserved a.mode (codes "mode") ∷ spell_mode_pattern a.pattern ++ reserved a.is (codes "is") ∷ spell_type a.ty) (special a.semicolon (codes ";") ∷ []) (each_append (0 ∷ levels_mode_pattern a.pattern) (0 ∷ levels_type a.ty) (reserved a.mode (codes "mode") ∷ spell_mode_pattern a.pattern) (reserved a.is (codes "is") ∷ spell_type a.ty) (ap suc (each_mode_pattern a.pattern)) (ap suc (each_type a.ty))) refl

pub each_heading : (t : HeadingTree) → length (levels_heading t) ≡ length (spell_heading t)
each_heading (heading_tree.Functor heading) = each_functor_heading levels_meaning spell_meaning each_meaning heading
each_heading (heading_tree.Predicate heading) = each_predicate_heading levels_meaning spell_meaning each_meaning heading
each_heading (heading_tree.Attribute heading) = each_attribute_heading levels_meaning spell_meaning each_meaning heading
each_heading (heading_tree.Mode heading) = each_mode_heading levels_meaning spell_meaning each_meaning heading
each_heading (heading_tree.Abbreviation heading) = each_abbreviation heading
each_heading (heading_tree.Structure heading) = each_structure heading
each_heading (heading_tree.RedefinedFunctor redefine heading) = ap suc (each_functor_heading (maybe levels_meaning) (maybe spell_meaning) (each_maybe levels_meaning spell_meaning each_meaning) heading)
each_heading (heading_tree.RedefinedPredicate redefine heading) = ap suc (each_predicate_heading (maybe levels_meaning) (maybe spell_meaning) (each_maybe levels_meaning spell_meaning each_meaning) heading)
each_heading (heading_tree.RedefinedAttribute redefine heading) = ap suc (each_attribute_heading (maybe levels_meaning) (maybe spell_meaning) (each_maybe levels_meaning spell_meaning each_meaning) heading)
each_heading (heading_tree.RedefinedMode redefine heading) = ap suc (each_mode_heading (maybe levels_meaning) (maybe spell_meaning) (each_maybe levels_meaning spell_meaning each_meaning) heading)
