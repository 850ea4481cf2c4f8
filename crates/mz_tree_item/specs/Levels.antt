-- How many constructs are open at each token of articles. A bracket counts from its opening token up to the one before its
-- closing token.
use Rattle.std.specs.Prelude.{ℕ, suc, List, [], ◌∷◌, ◌++◌, map}
use Rattle.std.specs.List.{flat_map}
use Rattle.mz_tree.specs.Spelled.{maybe}
use Rattle.mz_tree.specs.Levels.{levels_formula}
use Rattle.mz_tree.specs.Lists.{levels_separated}
use Rattle.mz_tree_proof.specs.Levels.{levels_proposition, levels_propositions}
use Rattle.mz_tree_proof.specs.LevelsReasoning.{levels_just, levels_statement}
use Rattle.mz_tree_item.specs.declared.schemes.TheoremTree.{TheoremTree}
use Rattle.mz_tree_item.specs.declared.schemes.ProvidedTree.{ProvidedTree}
use Rattle.mz_tree_item.specs.declared.schemes.SchemeTree.{SchemeTree}
use Rattle.mz_tree_item.specs.declared.definition.ConditionTree.{ConditionTree}
use Rattle.mz_tree_item.specs.declared.definition.PropertyTree.{PropertyTree}
use Rattle.mz_tree_item.specs.declared.definition.ConditionOrPropertyTree.{ConditionOrPropertyTree}
use Rattle.mz_tree_item.specs.declared.definition.ConditionOrPropertyTree.TheVariants as condition_or_property_tree
use Rattle.mz_tree_item.specs.declared.definition.DefinitionPartTree.{DefinitionPartTree}
use Rattle.mz_tree_item.specs.declared.definition.DefinitionPartTree.TheVariants as definition_part_tree
use Rattle.mz_tree_item.specs.declared.definition.DefinitionTree.{DefinitionTree}
use Rattle.mz_tree_item.specs.declared.registration.RegistrationPartTree.{RegistrationPartTree}
use Rattle.mz_tree_item.specs.declared.registration.RegistrationPartTree.TheVariants as registration_part_tree
use Rattle.mz_tree_item.specs.declared.registration.RegistrationTree.{RegistrationTree}
use Rattle.mz_tree_item.specs.declared.article.ItemTree.{ItemTree}
use Rattle.mz_tree_item.specs.declared.article.ItemTree.TheVariants as item_tree
use Rattle.mz_tree_item.specs.declared.article.ArticlePartTree.{ArticlePartTree}
use Rattle.mz_tree_item.specs.declared.article.ArticlePartTree.TheVariants as article_part_tree
use Rattle.mz_tree_item.specs.declared.article.ArticleTree.{ArticleTree}
use Rattle.mz_tree_heading.specs.Levels.{levels_heading}
use Rattle.mz_tree_part.specs.Levels.{levels_directive, levels_reserve, levels_parameter, levels_block_let, levels_notation, levels_cluster}

abbrev pub levels_theorem : TheoremTree → List ℕ
levels_theorem a = 0 ∷ levels_proposition a.proposition ++ levels_just a.just ++ 0 ∷ []

abbrev pub levels_provided : ProvidedTree → List ℕ
levels_provided a = 0 ∷ levels_propositions a.propositions

abbrev pub levels_scheme : SchemeTree → List ℕ
levels_scheme a = 0 ∷ 0 ∷ 1 ∷ map suc (levels_separated levels_parameter a.parameters) ++ 0 ∷ 0 ∷ levels_formula a.formula ++ maybe levels_provided a.provided ++ levels_just a.just ++ 0 ∷ []

abbrev pub levels_condition : ConditionTree → List ℕ
levels_condition a = 0 ∷ levels_just a.just ++ 0 ∷ []

abbrev pub levels_property : PropertyTree → List ℕ
levels_property a = 0 ∷ levels_just a.just ++ 0 ∷ []

abbrev pub levels_condition_or_property : ConditionOrPropertyTree → List ℕ
levels_condition_or_property (condition_or_property_tree.Condition condition) = levels_condition condition
levels_condition_or_property (condition_or_property_tree.Property property) = levels_property property

abbrev pub levels_definition_part : DefinitionPartTree → List ℕ
levels_definition_part (definition_part_tree.Let loci) = levels_block_let loci
levels_definition_part (definition_part_tree.Heading heading conditions) = levels_heading heading ++ flat_map levels_condition_or_property conditions

abbrev pub levels_definition : DefinitionTree → List ℕ
levels_definition a = 0 ∷ flat_map levels_definition_part a.parts ++ 0 ∷ 0 ∷ []

abbrev pub levels_registration_part : RegistrationPartTree → List ℕ
levels_registration_part (registration_part_tree.Let loci) = levels_block_let loci
levels_registration_part (registration_part_tree.Cluster cluster conditions) = levels_cluster cluster ++ flat_map levels_condition conditions

abbrev pub levels_registration : RegistrationTree → List ℕ
levels_registration a = 0 ∷ flat_map levels_registration_part a.parts ++ 0 ∷ 0 ∷ []

abbrev pub levels_item : ItemTree → List ℕ
levels_item (item_tree.Reserve item) = levels_reserve item
levels_item (item_tree.Theorem item) = levels_theorem item
levels_item (item_tree.Scheme item) = levels_scheme item
levels_item (item_tree.Definition item) = levels_definition item
levels_item (item_tree.Notation item) = levels_notation item
levels_item (item_tree.Registration item) = levels_registration item
levels_item (item_tree.Statement item) = levels_statement item

abbrev pub levels_article_part : ArticlePartTree → List ℕ
levels_article_part (article_part_tree.Begin begin) = 0 ∷ []
levels_article_part (article_part_tree.Item item) = levels_item item

abbrev pub levels_article : ArticleTree → List ℕ
levels_article a = 0 ∷ flat_map levels_directive a.directives ++ 0 ∷ flat_map levels_article_part a.parts
