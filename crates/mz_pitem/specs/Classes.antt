-- The words of items, and what parts of articles begin with.
use Rattle.std.specs.Prelude.{ℕ, Bool, true, false, ◌||◌, List, [], ◌∷◌, Option, Some, None, is_none, is_some, ◌&&◌, codes}
use Rattle.mz_base.specs.declared.token.MarkedToken.{MarkedToken}
use Rattle.mz_tree_heading.specs.declared.heading.HeadingTree.{HeadingTree}
use Rattle.mz_tree_heading.specs.declared.heading.HeadingTree.TheVariants as heading_tree
use Rattle.mz_tree_part.specs.Keywords.{directive_word}
use Rattle.mz_ppattern.specs.Words.{is_word}
use Rattle.mz_ppart.specs.Classes.{begins_let}
use Rattle.mz_ppart.specs.WordLists.{directives, first_of}
use Rattle.mz_pproof.specs.Classes.{begins_statement}
use Rattle.mz_pheading.specs.Classes.{heading_word, headings}
use Rattle.mz_pitem.specs.declared.items.ItemWord.{ItemWord}
use Rattle.mz_pitem.specs.declared.items.ItemWord.TheVariants as item_words

-- Behind a redefinition of a functor or a predicate with neither type nor meaning a property has to follow.
abbrev pub is_due : HeadingTree → Bool
is_due (heading_tree.RedefinedFunctor p a) = is_none a.result && is_none a.meaning
is_due (heading_tree.RedefinedPredicate p a) = is_none a.meaning
is_due _ = false

abbrev pub begins_definition_part : MarkedToken → Bool
begins_definition_part t = is_some (first_of heading_word headings t) || begins_let t

abbrev pub begins_directive : MarkedToken → Bool
begins_directive t = is_some (first_of directive_word directives t)

-- The words that items begin with, where they are no statements.
abbrev pub item_word : ItemWord → List ℕ
item_word item_words.Reserve = codes "reserve"
item_word item_words.Theorem = codes "theorem"
item_word item_words.Scheme = codes "scheme"
item_word item_words.Definition = codes "definition"
item_word item_words.Notation = codes "notation"
item_word item_words.Registration = codes "registration"

abbrev pub items : List ItemWord
items = item_words.Reserve ∷ item_words.Theorem ∷ item_words.Scheme ∷ item_words.Definition ∷ item_words.Notation ∷ item_words.Registration ∷ []

-- which of them comes next, if any
abbrev pub item_next : List MarkedToken → Option ItemWord
item_next [] = None
item_next (t ∷ ts) = first_of item_word items t

abbrev pub begins_item : MarkedToken → Bool
begins_item t = is_some (first_of item_word items t) || begins_statement t

abbrev pub begins_begin : MarkedToken → Bool
begins_begin t = is_word (codes "begin") t

abbrev pub begins_article_part : MarkedToken → Bool
begins_article_part t = begins_begin t || begins_item t
