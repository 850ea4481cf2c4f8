-- There is one level for each token of articles.
use Rattle.std.specs.Prelude.{◌≡◌, suc, [], ◌∷◌, ◌++◌, map, length, refl, codes}
use Rattle.std.specs.List.{flat_map}
use Rattle.std.proofs.Common.{ap}
use Rattle.mz_forms.specs.Form.{each_append}
use Rattle.mz_tree.specs.Spelled.{reserved, special, identifier, maybe}
use Rattle.mz_tree.specs.Levels.{levels_formula, each_maybe, each_flat, each_formula, nested_each}
use Rattle.mz_tree.specs.Spell.{spell_formula}
use Rattle.mz_tree.specs.Lists.{spell_separated, levels_separated, each_separated}
use Rattle.mz_tree_proof.specs.Spell.{spell_proposition}
use Rattle.mz_tree_proof.specs.SpellReasoning.{spell_just}
use Rattle.mz_tree_proof.specs.Levels.{levels_proposition}
use Rattle.mz_tree_proof.specs.LevelsReasoning.{levels_just}
use Rattle.mz_tree_proof.specs.EachLevel.{each_proposition, each_propositions}
use Rattle.mz_tree_proof.specs.EachLevelReasoning.{each_just, each_statement}
use Rattle.mz_tree_part.specs.Keywords.{condition_word, property_word}
use Rattle.mz_tree_heading.specs.Spell.{spell_heading}
use Rattle.mz_tree_part.specs.Spell.{spell_directive, spell_parameter, spell_cluster}
use Rattle.mz_tree_item.specs.Spell.{spell_theorem, spell_provided, spell_scheme, spell_condition, spell_property, spell_condition_or_property, spell_definition_part, spell_definition, spell_registration_part, spell_registration, spell_item, spell_article_part, spell_article}
use Rattle.mz_tree_heading.specs.Levels.{levels_heading}
use Rattle.mz_tree_part.specs.Levels.{levels_directive, levels_parameter, levels_cluster}
use Rattle.mz_tree_item.specs.Levels.{levels_theorem, levels_provided, levels_scheme, levels_condition, levels_property, levels_condition_or_property, levels_definition_part, levels_definition, levels_registration_part, levels_registration, levels_item, levels_article_part, levels_article}
use Rattle.mz_tree_item.specs.declared.schemes.TheoremTree.{TheoremTree}
use Rattle.mz_tree_item.specs.declared.schemes.ProvidedTree.{ProvidedTree}
use Rattle.mz_tree_item.specs.declared.schemes.SchemeTree.{SchemeTree}
use Rattle.mz_tree_item.specs.declared.definition.ConditionTree.{ConditionTree}
use Rattle.mz_tree_item.specs.declared.definition.PropertyTree.{PropertyTree}
use Rattle.mz_tree_item.specs.declared.definition.ConditionOrPropertyTree.{ConditionOrPropertyTree}
use Rattle.mz_tree_item.specs.declared.definition.ConditionOrPropertyTree.TheVariants as condition_or_property_tree
use Rattle.mz_tree_item.specs.declared.definition.DefinitionPartTree.{DefinitionPartTree}
use Rattle.mz_tree_item.specs.declared.definition.DefinitionPartTree.TheVariants as definition_part_tree
use Rattle.mz_tree_item.specs.declared.definition.DefinitionTree.{DefinitionTree}
use Rattle.mz_tree_item.specs.declared.registration.RegistrationPartTree.{RegistrationPartTree}
use Rattle.mz_tree_item.specs.declared.registration.RegistrationPartTree.TheVariants as registration_part_tree
use Rattle.mz_tree_item.specs.declared.registration.RegistrationTree.{RegistrationTree}
use Rattle.mz_tree_item.specs.declared.article.ItemTree.{ItemTree}
use Rattle.mz_tree_item.specs.declared.article.ItemTree.TheVariants as item_tree
use Rattle.mz_tree_item.specs.declared.article.ArticlePartTree.{ArticlePartTree}
use Rattle.mz_tree_item.specs.declared.article.ArticlePartTree.TheVariants as article_part_tree
use Rattle.mz_tree_item.specs.declared.article.ArticleTree.{ArticleTree}
use Rattle.mz_tree_heading.specs.EachLevel.{each_heading}
use Rattle.mz_tree_part.specs.EachLevel.{each_directive, each_reserve, each_parameter, each_block_let, each_notation, each_cluster}

pub each_theorem : (t : TheoremTree) → length (levels_theorem t) ≡ length (spell_theorem t)
each_theorem a = each_append (0 ∷ levels_proposition a.proposition ++ levels_just a.just) (0 ∷ []) (reserved a.theorem (codes "theorem") ∷ spell_proposition a.proposition ++ spell_just a.just) (special a.semicolon (codes ";") ∷ []) (each_append (0 ∷ levels_proposition a.proposition) (levels_just a.just) (reserved a.theorem (codes "theorem") ∷ spell_proposition a.proposition) (spell_just a.just) (ap suc (each_proposition a.proposition)) (each_just a.just)) refl

pub each_provided : (t : ProvidedTree) → length (levels_provided t) ≡ length (spell_provided t)
each_provided a = ap suc (each_propositions a.propositions)

pub each_scheme : (t : SchemeTree) → length (levels_scheme t) ≡ length (spell_scheme t)
each_scheme a = each_append (0 ∷ 0 ∷ 1 ∷ map suc (levels_separated levels_parameter a.parameters) ++ 0 ∷ 0 ∷ levels_formula a.formula ++ maybe levels_provided a.provided ++ levels_just a.just) (0 ∷ []) (reserved a.scheme (codes "scheme") ∷ identifier a.name ∷ special a.left (codes "{") ∷ spell_separated spell_parameter a.parameters ++ special a.right (codes "}") ∷ special a.colon (codes ":") ∷ spell_formula a.formula ++ maybe spell_provided a.provided ++ spell_just a.just) (special a.semicolon (codes ";") ∷ []) (each_append (0 ∷ 0 ∷ 1 ∷ map suc (levels_separated levels_parameter a.parameters) ++ 0 ∷ 0 ∷ levels_formula a.formula ++ maybe levels_provided a.provided) (levels_just a.just) (reserved a.scheme (codes "scheme") ∷ identifier a.name ∷ special a.left (codes "{") ∷ spell_separated spell_parameter a.parameters ++ special a.right (codes "}") ∷ special a.colon (codes ":") ∷ spell_formula a.formula ++ maybe spell_provided a.provided) (spell_just a.just) (each_append (0 ∷ 0 ∷ 1 ∷ map suc (levels_separated levels_parameter a.parameters) ++ 0 ∷ 0 ∷ levels_formula a.formula) (maybe levels_provided a.provided) (reserved a.scheme (codes "scheme") ∷ identifier a.name ∷ special a.left (codes "{") ∷ spell_separated spell_parameter a.parameters ++ special a.right (codes "}") ∷ special a.colon (codes ":") ∷ spell_formula a.formula) (maybe spell_provided a.provided) (each_append (0 ∷ 0 ∷ 1 ∷ map suc (levels_separated levels_parameter a.parameters)) (0 ∷ 0 ∷ levels_formula a.formula) (reserved a.scheme (codes "scheme") ∷ identifier a.name ∷ special a.left (codes "{") ∷ spell_separated spell_parameter a.parameters) (special a.right (codes "}") ∷ special a.colon (codes ":") ∷ spell_formula a.formula) (ap suc (ap suc (ap suc (nested_each (levels_separated levels_parameter a.parameters) (spell_separated spell_parameter a.parameters) (each_separated levels_parameter spell_parameter each_parameter a.parameters))))) (ap suc (ap suc (each_formula a.formula)))) (each_maybe levels_provided spell_provided each_provided a.provided)) (each_just a.just)) refl

pub each_condition : (t : ConditionTree) → length (levels_condition t) ≡ length (spell_condition t)
each_condition a = each_append (0 ∷ levels_just a.just) (0 ∷ []) (reserved a.place (condition_word a.word) ∷ spell_just a.just) (special a.semicolon (codes ";") ∷ []) (ap suc (each_just a.just)) refl

pub each_property : (t : PropertyTree) → length (levels_property t) ≡ length (spell_property t)
each_property a = each_append (0 ∷ levels_just a.just) (0 ∷ []) (reserved a.place (property_word a.word) ∷ spell_just a.just) (special a.semicolon (codes ";") ∷ []) (ap suc (each_just a.just)) refl

pub each_condition_or_property : (t : ConditionOrPropertyTree) → length (levels_condition_or_property t) ≡ length (spell_condition_or_property t)
each_condition_or_property (condition_or_property_tree.Condition condition) = each_condition condition
each_condition_or_property (condition_or_property_tree.Property property) = each_property property

pub each_definition_part : (t : DefinitionPartTree) → length (levels_definition_part t) ≡ length (spell_definition_part t)
each_definition_part (definition_part_tree.Let loci) = each_block_let loci
each_definition_part (definition_part_tree.Heading heading conditions) = each_append (levels_heading heading) (flat_map levels_condition_or_property conditions) (spell_heading heading) (flat_map spell_condition_or_property conditions) (each_heading heading) (each_flat levels_condition_or_property spell_condition_or_property each_condition_or_property conditions)

pub each_definition : (t : DefinitionTree) → length (levels_definition t) ≡ length (spell_definition t)
each_definition a = each_append (0 ∷ flat_map levels_definition_part a.parts) (0 ∷ 0 ∷ []) (reserved a.definition (codes "definition") ∷ flat_map spell_definition_part a.parts) (reserved a.end (codes "end") ∷ special a.semicolon (codes ";") ∷ []) (ap suc (each_flat levels_definition_part spell_definition_part each_definition_part a.parts)) refl

pub each_registration_part : (t : RegistrationPartTree) → length (levels_registration_part t) ≡ length (spell_registration_part t)
each_registration_part (registration_part_tree.Let loci) = each_block_let loci
each_registration_part (registration_part_tree.Cluster cluster conditions) = each_append (levels_cluster cluster) (flat_map levels_condition conditions) (spell_cluster cluster) (flat_map spell_condition conditions) (each_cluster cluster) (each_flat levels_condition spell_condition each_condition conditions)

pub each_registration : (t : RegistrationTree) → length (levels_registration t) ≡ length (spell_registration t)
each_registration a = each_append (0 ∷ flat_map levels_registration_part a.parts) (0 ∷ 0 ∷ []) (reserved a.registration (codes "registration") ∷ flat_map spell_registration_part a.parts) (reserved a.end (codes "end") ∷ special a.semicolon (codes ";") ∷ []) (ap suc (each_flat levels_registration_part spell_registration_part each_registration_part a.parts)) refl

pub each_item : (t : ItemTree) → length (levels_item t) ≡ length (spell_item t)
each_item (item_tree.Reserve item) = each_reserve item
each_item (item_tree.Theorem item) = each_theorem item
each_item (item_tree.Scheme item) = each_scheme item
each_item (item_tree.Definition item) = each_definition item
each_item (item_tree.Notation item) = each_notation item
each_item (item_tree.Registration item) = each_registration item
each_item (item_tree.Statement item) = each_statement item

pub each_article_part : (t : ArticlePartTree) → length (levels_article_part t) ≡ length (spell_article_part t)
each_article_part (article_part_tree.Begin begin) = refl
each_article_part (article_part_tree.Item item) = each_item item

pub each_article : (t : ArticleTree) → length (levels_article t) ≡ length (spell_article t)
each_article a = each_append (0 ∷ flat_map levels_directive a.directives) (0 ∷ flat_map levels_article_part a.parts) (reserved a.environ (codes "environ") ∷ flat_map spell_directive a.directives) (reserved a.begin (codes "begin") ∷ flat_map spell_article_part a.parts) (ap suc (each_flat levels_directive spell_directive each_directive a.directives)) (ap suc (each_flat levels_article_part spell_article_part each_article_part a.parts))
