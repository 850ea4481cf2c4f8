-- The rules beside the alternatives of the grammar, for articles.
use Rattle.std.specs.Prelude.{◌≡◌, ◌||◌, Bool, true, false, List, [], ◌∷◌, is_some}
use Rattle.mz_tree.specs.Rules.{IsFormula, Every, IfAny}
use Rattle.mz_tree.specs.Lists.{AreDivided}
use Rattle.mz_tree_proof.specs.Rules.{IsProposition, ArePropositions}
use Rattle.mz_tree_proof.specs.RulesReasoning.{IsJust, IsStatement}
use Rattle.mz_tree_item.specs.declared.schemes.TheoremTree.{TheoremTree}
use Rattle.mz_tree_item.specs.declared.schemes.ProvidedTree.{ProvidedTree}
use Rattle.mz_tree_item.specs.declared.schemes.SchemeTree.{SchemeTree}
use Rattle.mz_tree_heading.specs.declared.heading.HeadingTree.{HeadingTree}
use Rattle.mz_tree_heading.specs.declared.heading.HeadingTree.TheVariants as heading_tree
use Rattle.mz_tree_item.specs.declared.definition.ConditionTree.{ConditionTree}
use Rattle.mz_tree_item.specs.declared.definition.PropertyTree.{PropertyTree}
use Rattle.mz_tree_item.specs.declared.definition.ConditionOrPropertyTree.{ConditionOrPropertyTree}
use Rattle.mz_tree_item.specs.declared.definition.ConditionOrPropertyTree.TheVariants as condition_or_property_tree
use Rattle.mz_tree_item.specs.declared.definition.DefinitionPartTree.{DefinitionPartTree}
use Rattle.mz_tree_item.specs.declared.definition.DefinitionPartTree.TheVariants as definition_part_tree
use Rattle.mz_tree_item.specs.declared.definition.DefinitionTree.{DefinitionTree}
use Rattle.mz_tree_item.specs.declared.registration.RegistrationPartTree.{RegistrationPartTree}
use Rattle.mz_tree_item.specs.declared.registration.RegistrationPartTree.TheVariants as registration_part_tree
use Rattle.mz_tree_item.specs.declared.registration.RegistrationTree.{RegistrationTree}
use Rattle.mz_tree_item.specs.declared.article.ItemTree.{ItemTree}
use Rattle.mz_tree_item.specs.declared.article.ItemTree.TheVariants as item_tree
use Rattle.mz_tree_item.specs.declared.article.ArticlePartTree.{ArticlePartTree}
use Rattle.mz_tree_item.specs.declared.article.ArticlePartTree.TheVariants as article_part_tree
use Rattle.mz_tree_item.specs.declared.article.ArticleTree.{ArticleTree}
use Rattle.mz_tree_heading.specs.Rules.{IsHeading}
use Rattle.mz_tree_part.specs.Rules.{is_condition_yet, is_property_yet, IsDirective, IsReserve, IsParameter, parameter_ends_in_terms, IsLoci, IsNotation, IsCluster}

abbrev pub IsTheorem : TheoremTree → Type 0
IsTheorem a = IsProposition a.proposition × IsJust a.just

abbrev pub IsProvided : ProvidedTree → Type 0
IsProvided a = ArePropositions a.propositions

abbrev pub IsScheme : SchemeTree → Type 0
IsScheme a = AreDivided IsParameter parameter_ends_in_terms a.parameters × IsFormula false a.formula × IfAny IsProvided a.provided × IsJust a.just

abbrev pub IsCondition : ConditionTree → Type 0
IsCondition a = (is_condition_yet a.word ≡ true) × IsJust a.just

abbrev pub IsProperty : PropertyTree → Type 0
IsProperty a = (is_property_yet a.word ≡ true) × IsJust a.just

abbrev pub IsConditionOrProperty : ConditionOrPropertyTree → Type 0
IsConditionOrProperty (condition_or_property_tree.Condition a) = IsCondition a
IsConditionOrProperty (condition_or_property_tree.Property a) = IsProperty a

abbrev pub has_property : List ConditionOrPropertyTree → Bool
has_property [] = false
has_property (condition_or_property_tree.Condition a ∷ rest) = has_property rest
has_property (condition_or_property_tree.Property a ∷ rest) = true

-- A redefinition has a type or a meaning, or, of a functor or predicate, a property.
abbrev pub may_redefine : HeadingTree → List ConditionOrPropertyTree → Bool
may_redefine (heading_tree.Functor a) cs = true
may_redefine (heading_tree.Predicate a) cs = true
may_redefine (heading_tree.Attribute a) cs = true
may_redefine (heading_tree.Mode a) cs = true
may_redefine (heading_tree.Abbreviation a) cs = true
may_redefine (heading_tree.Structure a) cs = true
may_redefine (heading_tree.RedefinedFunctor p a) cs = is_some a.result || is_some a.meaning || has_property cs
may_redefine (heading_tree.RedefinedPredicate p a) cs = is_some a.meaning || has_property cs
may_redefine (heading_tree.RedefinedAttribute p a) cs = is_some a.meaning
may_redefine (heading_tree.RedefinedMode p a) cs = is_some a.result || is_some a.meaning

abbrev pub IsDefinitionPart : DefinitionPartTree → Type 0
IsDefinitionPart (definition_part_tree.Let a) = IsLoci a
IsDefinitionPart (definition_part_tree.Heading a cs) = IsHeading a × Every IsConditionOrProperty cs × (may_redefine a cs ≡ true)

abbrev pub IsDefinition : DefinitionTree → Type 0
IsDefinition a = Every IsDefinitionPart a.parts

abbrev pub IsRegistrationPart : RegistrationPartTree → Type 0
IsRegistrationPart (registration_part_tree.Let a) = IsLoci a
IsRegistrationPart (registration_part_tree.Cluster a cs) = IsCluster a × Every IsCondition cs

abbrev pub IsRegistration : RegistrationTree → Type 0
IsRegistration a = Every IsRegistrationPart a.parts

abbrev pub IsItem : ItemTree → Type 0
IsItem (item_tree.Reserve a) = IsReserve a
IsItem (item_tree.Theorem a) = IsTheorem a
IsItem (item_tree.Scheme a) = IsScheme a
IsItem (item_tree.Definition a) = IsDefinition a
IsItem (item_tree.Notation a) = IsNotation a
IsItem (item_tree.Registration a) = IsRegistration a
IsItem (item_tree.Statement a) = IsStatement a

abbrev pub IsArticlePart : ArticlePartTree → Type 0
IsArticlePart (article_part_tree.Begin p) = Unit {0}
IsArticlePart (article_part_tree.Item a) = IsItem a

abbrev pub IsArticle : ArticleTree → Type 0
IsArticle a = Every IsDirective a.directives × Every IsArticlePart a.parts
