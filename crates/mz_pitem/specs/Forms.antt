-- The forms of definitions, items and articles.
use Rattle.std.specs.Prelude.{ℕ, Bool, false, ◌||◌, List, Result, Ok, Err}
use Rattle.mz_base.specs.declared.token.MarkedToken.{MarkedToken}
use Rattle.mz_forms.specs.declared.refusal.Refusal.{Refusal}
use Rattle.mz_forms.specs.Form.{Form}
use Rattle.mz_forms.specs.Reading.{Builds, Gives}
use Rattle.mz_tree_heading.specs.declared.heading.HeadingTree.{HeadingTree}
use Rattle.mz_tree_item.specs.declared.article.ArticlePartTree.{ArticlePartTree}
use Rattle.mz_tree_item.specs.declared.article.ArticleTree.{ArticleTree}
use Rattle.mz_tree_item.specs.declared.article.ItemTree.{ItemTree}
use Rattle.mz_tree_item.specs.declared.definition.DefinitionPartTree.{DefinitionPartTree}
use Rattle.mz_tree_item.specs.declared.definition.DefinitionPartTree.TheVariants as parts
use Rattle.mz_tree_item.specs.declared.definition.DefinitionTree.{DefinitionTree}
use Rattle.mz_tree_item.specs.EachLevel as each
use Rattle.mz_tree_item.specs.Levels as levels
use Rattle.mz_tree_item.specs.Rules as rules
use Rattle.mz_tree_item.specs.Spell as spell
use Rattle.mz_ppattern.specs.Optional.{listed}
use Rattle.mz_ppart.specs.Forms.{directive_form}
use Rattle.mz_pblock.specs.Classes.{begins_either}
use Rattle.mz_pblock.specs.Forms.{owed_form}
use Rattle.mz_pitem.specs.Classes.{begins_article_part, begins_definition_part, begins_directive, is_due}

-- A heading with its conditions and properties.
abbrev pub IsHeaded : DefinitionPartTree → Type 0
IsHeaded (parts.Let a) = ⊥
IsHeaded (parts.Heading a cs) = rules.IsDefinitionPart (parts.Heading a cs)

abbrev pub headed_form : Form MarkedToken
headed_form = record { Tree = DefinitionPartTree; spell = spell.spell_definition_part; levels = levels.levels_definition_part; each = each.each_definition_part; IsTree = IsHeaded; goes = λ _ t. begins_either t }

-- both, where there is a second
abbrev pub paired : {X Y : Type 0} → X → Result Y Refusal → Result (X × Y) Refusal
paired x (Ok y) = Ok (x, y)
paired x (Err e) = Err e

-- the conditions and properties behind a heading, with it
abbrev pub ReadsBehindHeading : ℕ → HeadingTree → List MarkedToken → Result DefinitionPartTree Refusal → List MarkedToken → Type 0
ReadsBehindHeading room h before result after = Gives (owed_form (is_due h)) room (λ x. Builds (owed_form (is_due h)) room (λ cs. parts.Heading h cs) x before after) before result after

abbrev pub definition_part_form : Form MarkedToken
definition_part_form = record { Tree = DefinitionPartTree; spell = spell.spell_definition_part; levels = levels.levels_definition_part; each = each.each_definition_part; IsTree = rules.IsDefinitionPart; goes = λ _ t. begins_either t }

abbrev pub goes_on_definition_parts : MarkedToken → Bool
goes_on_definition_parts t = begins_either t || begins_definition_part t

abbrev pub definition_parts_form : Form MarkedToken
definition_parts_form = listed definition_part_form goes_on_definition_parts

abbrev pub definition_form : Form MarkedToken
definition_form = record { Tree = DefinitionTree; spell = spell.spell_definition; levels = levels.levels_definition; each = each.each_definition; IsTree = rules.IsDefinition; goes = λ _ _. false }

-- Items, and articles.
abbrev pub item_form : Form MarkedToken
item_form = record { Tree = ItemTree; spell = spell.spell_item; levels = levels.levels_item; each = each.each_item; IsTree = rules.IsItem; goes = λ _ _. false }

abbrev pub directives_form : Form MarkedToken
directives_form = listed directive_form begins_directive

abbrev pub article_part_form : Form MarkedToken
article_part_form = record { Tree = ArticlePartTree; spell = spell.spell_article_part; levels = levels.levels_article_part; each = each.each_article_part; IsTree = rules.IsArticlePart; goes = λ _ _. false }

abbrev pub article_parts_form : Form MarkedToken
article_parts_form = listed article_part_form begins_article_part

-- an article, on which a further part may go
abbrev pub article_form : Form MarkedToken
article_form = record { Tree = ArticleTree; spell = spell.spell_article; levels = levels.levels_article; each = each.each_article; IsTree = rules.IsArticle; goes = λ _ t. begins_article_part t }
