-- The spelling of articles: one case for each alternative of the grammar.
use Rattle.std.specs.Prelude.{List, [], ◌∷◌, ◌++◌, codes}
use Rattle.std.specs.List.{flat_map}
use Rattle.mz_base.specs.declared.token.MarkedToken.{MarkedToken}
use Rattle.mz_tree.specs.Spelled.{reserved, special, identifier, maybe}
use Rattle.mz_tree.specs.Spell.{spell_formula}
use Rattle.mz_tree.specs.Lists.{spell_separated}
use Rattle.mz_tree_proof.specs.Spell.{spell_proposition, spell_propositions}
use Rattle.mz_tree_proof.specs.SpellReasoning.{spell_just, spell_statement}
use Rattle.mz_tree_part.specs.Keywords.{condition_word, property_word}
use Rattle.mz_tree_item.specs.declared.schemes.TheoremTree.{TheoremTree}
use Rattle.mz_tree_item.specs.declared.schemes.ProvidedTree.{ProvidedTree}
use Rattle.mz_tree_item.specs.declared.schemes.SchemeTree.{SchemeTree}
use Rattle.mz_tree_item.specs.declared.definition.ConditionTree.{ConditionTree}
use Rattle.mz_tree_item.specs.declared.definition.PropertyTree.{PropertyTree}
use Rattle.mz_tree_item.specs.declared.definition.ConditionOrPropertyTree.{ConditionOrPropertyTree}
use Rattle.mz_tree_item.specs.declared.definition.ConditionOrPropertyTree.TheVariants as condition_or_property_tree
use Rattle.mz_tree_item.specs.declared.definition.DefinitionPartTree.{DefinitionPartTree}
use Rattle.mz_tree_item.specs.declared.definition.DefinitionPartTree.TheVariants as definition_part_tree
use Rattle.mz_tree_item.specs.declared.definition.DefinitionTree.{DefinitionTree}
use Rattle.mz_tree_item.specs.declared.registration.RegistrationPartTree.{RegistrationPartTree}
use Rattle.mz_tree_item.specs.declared.registration.RegistrationPartTree.TheVariants as registration_part_tree
use Rattle.mz_tree_item.specs.declared.registration.RegistrationTree.{RegistrationTree}
use Rattle.mz_tree_item.specs.declared.article.ItemTree.{ItemTree}
use Rattle.mz_tree_item.specs.declared.article.ItemTree.TheVariants as item_tree
use Rattle.mz_tree_item.specs.declared.article.ArticlePartTree.{ArticlePartTree}
use Rattle.mz_tree_item.specs.declared.article.ArticlePartTree.TheVariants as article_part_tree
use Rattle.mz_tree_item.specs.declared.article.ArticleTree.{ArticleTree}
use Rattle.mz_tree_heading.specs.Spell.{spell_heading}
use Rattle.mz_tree_part.specs.Spell.{spell_directive, spell_reserve, spell_parameter, spell_block_let, spell_notation, spell_cluster}

abbrev pub spell_theorem : TheoremTree → List MarkedToken
spell_theorem a = reserved a.theorem (codes "theorem") ∷ spell_proposition a.proposition ++ spell_just a.just ++ special a.semicolon (codes ";") ∷ []

abbrev pub spell_provided : ProvidedTree → List MarkedToken
spell_provided a = reserved a.provided (codes "provided") ∷ spell_propositions a.propositions

abbrev pub spell_scheme : SchemeTree → List MarkedToken
spell_scheme a = reserved a.scheme (codes "scheme") ∷ identifier a.name ∷ special a.left (codes "{") ∷ spell_separated spell_parameter a.parameters ++ special a.right (codes "}") ∷ special a.colon (codes ":") ∷ spell_formula a.formula ++ maybe spell_provided a.provided ++ spell_just a.just ++ special a.semicolon (codes ";") ∷ []

abbrev pub spell_condition : ConditionTree → List MarkedToken
spell_condition a = reserved a.place (condition_word a.word) ∷ spell_just a.just ++ special a.semicolon (codes ";") ∷ []

abbrev pub spell_property : PropertyTree → List MarkedToken
spell_property a = reserved a.place (property_word a.word) ∷ spell_just a.just ++ special a.semicolon (codes ";") ∷ []

abbrev pub spell_condition_or_property : ConditionOrPropertyTree → List MarkedToken
spell_condition_or_property (condition_or_property_tree.Condition condition) = spell_condition condition
spell_condition_or_property (condition_or_property_tree.Property property) = spell_property property

abbrev pub spell_definition_part : DefinitionPartTree → List MarkedToken
spell_definition_part (definition_part_tree.Let loci) = spell_block_let loci
spell_definition_part (definition_part_tree.Heading heading conditions) = spell_heading heading ++ flat_map spell_condition_or_property conditions

abbrev pub spell_definition : DefinitionTree → List MarkedToken
spell_definition a = reserved a.definition (codes "definition") ∷ flat_map spell_definition_part a.parts ++ reserved a.end (codes "end") ∷ special a.semicolon (codes ";") ∷ []

abbrev pub spell_registration_part : RegistrationPartTree → List MarkedToken
spell_registration_part (registration_part_tree.Let loci) = spell_block_let loci
spell_registration_part (registration_part_tree.Cluster cluster conditions) = spell_cluster cluster ++ flat_map spell_condition conditions

abbrev pub spell_registration : RegistrationTree → List MarkedToken
spell_registration a = reserved a.registration (codes "registration") ∷ flat_map spell_registration_part a.parts ++ reserved a.end (codes "end") ∷ special a.semicolon (codes ";") ∷ []

abbrev pub spell_item : ItemTree → List MarkedToken
spell_item (item_tree.Reserve item) = spell_reserve item
spell_item (item_tree.Theorem item) = spell_theorem item
spell_item (item_tree.Scheme item) = spell_scheme item
spell_item (item_tree.Definition item) = spell_definition item
spell_item (item_tree.Notation item) = spell_notation item
spell_item (item_tree.Registration item) = spell_registration item
spell_item (item_tree.Statement item) = spell_statement item

abbrev pub spell_article_part : ArticlePartTree → List MarkedToken
spell_article_part (article_part_tree.Begin begin) = reserved begin (codes "begin") ∷ []
spell_article_part (article_part_tree.Item item) = spell_item item

abbrev pub spell_article : ArticleTree → List MarkedToken
spell_article a = reserved a.environ (codes "environ") ∷ flat_map spell_directive a.directives ++ reserved a.begin (codes "begin") ∷ flat_map spell_article_part a.parts
