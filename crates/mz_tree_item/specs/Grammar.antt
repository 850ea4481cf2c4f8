-- The form of articles: which tokens spell which tree.
use Rattle.std.specs.Prelude.{ℕ, true, List, take}
use Rattle.mz_base.specs.declared.token.Token.{Token}
use Rattle.mz_forms.specs.Form.{Form}
use Rattle.mz_forms.specs.Parse.{Spells, Begins}
use Rattle.mz_marks.specs.Marks.{AreMarked}
use Rattle.mz_base.specs.declared.token.MarkedToken.{MarkedToken}
use Rattle.mz_tree_item.specs.declared.article.ArticleTree.{ArticleTree}
use Rattle.mz_tree_item.specs.Spell.{spell_article}
use Rattle.mz_tree_item.specs.Levels.{levels_article}
use Rattle.mz_tree_item.specs.EachLevel.{each_article}
use Rattle.mz_tree_item.specs.Rules.{IsArticle}

abbrev pub article : Form MarkedToken
article = record { Tree = ArticleTree; spell = spell_article; levels = levels_article; each = each_article; IsTree = IsArticle; goes = λ _ _. true }

-- The tokens spell the tree, with the marks that commas have in the whole list.
abbrev pub SpellsArticle : ArticleTree → List Token → Type 0
SpellsArticle tree tokens = (all : List MarkedToken) × AreMarked tokens all × Spells article tree all

-- The first k tokens, with the marks that commas have in the whole list, begin the spelling of some article, of any
-- depth.
abbrev pub BeginArticle : List Token → ℕ → Type 0
BeginArticle tokens k = (all : List MarkedToken) × AreMarked tokens all × Begins article (take k all)
