-- What a parse of an article promises.
use Rattle.std.specs.Prelude.{◌≡◌, ℕ, ◌<◌, List, length, Result, Ok, Err}
use Rattle.mz_base.specs.TokenList.{TokenList}
use Rattle.mz_base.specs.declared.place.Place.{Place}
use Rattle.mz_base.specs.declared.token.MarkedToken.{MarkedToken}
use Rattle.mz_forms.specs.Parse.{Longest, NoTree, TheTree, TooDeepAt}
use Rattle.mz_marks.specs.Marks.{AreMarked}
use Rattle.mz_pterm.specs.Parses.{StandsAt}
use Rattle.mz_pterm.specs.declared.parse.ParseFault.{ParseFault}
use Rattle.mz_pterm.specs.declared.parse.ParseFault.TheVariants.{EndsEarly, Memory, TooDeep, Unexpected}
use Rattle.mz_tree_item.specs.Grammar.{article}
use Rattle.mz_tree_item.specs.declared.article.ArticleTree.{ArticleTree}

-- The tokens spell one article, which is given; or the place of the first token with which the tokens so far begin none, of
-- the first one that is nested more than 128 deep in each article that the tokens up to it begin, or of the text's end,
-- where all tokens begin an article and are none.
abbrev pub IsArticle : List MarkedToken → Place → Result ArticleTree ParseFault → Type 0
IsArticle all end (Ok tree) = TheTree article 128 all 0 tree (length all)
IsArticle all end (Err (Unexpected place)) = (k : ℕ) × (k < length all) × Longest article 128 all 0 k × StandsAt all k place
IsArticle all end (Err (TooDeep place)) = (k : ℕ) × TooDeepAt article 128 all 0 k × StandsAt all k place
IsArticle all end (Err (EndsEarly place)) = NoTree article 128 all 0 (length all) × (place ≡ end)
IsArticle all end (Err Memory) = Unit {0}

-- The same over the tokens of a text, with the marks that commas have in the whole list.
abbrev pub ParsesArticle : TokenList → Result ArticleTree ParseFault → Type 0
ParsesArticle tokens (Err Memory) = Unit {0}
ParsesArticle tokens result = (all : List MarkedToken) × AreMarked tokens.items all × IsArticle all tokens.end result

-- What parses of the same tokens give is the same, where there was memory.
abbrev pub OneParse : Type 0
OneParse = (tokens : TokenList) (a b : Result ArticleTree ParseFault) → ParsesArticle tokens a → ParsesArticle tokens b → (a ≡ Err Memory → ⊥) → (b ≡ Err Memory → ⊥) → a ≡ b
