-- The words that headings begin with.
use Rattle.std.specs.Prelude.{ℕ, List, [], ◌∷◌, Option, None, codes}
use Rattle.mz_base.specs.declared.token.MarkedToken.{MarkedToken}
use Rattle.mz_ppart.specs.WordLists.{first_of}
use Rattle.mz_pheading.specs.declared.headings.HeadingWord.{HeadingWord}
use Rattle.mz_pheading.specs.declared.headings.HeadingWord.TheVariants as heading_words

abbrev pub heading_word : HeadingWord → List ℕ
heading_word heading_words.Func = codes "func"
heading_word heading_words.Pred = codes "pred"
heading_word heading_words.Attr = codes "attr"
heading_word heading_words.Mode = codes "mode"
heading_word heading_words.Struct = codes "struct"
heading_word heading_words.Redefine = codes "redefine"

abbrev pub headings : List HeadingWord
headings = heading_words.Func ∷ heading_words.Pred ∷ heading_words.Attr ∷ heading_words.Mode ∷ heading_words.Struct ∷ heading_words.Redefine ∷ []

-- which of them comes next, if any
abbrev pub heading_next : List MarkedToken → Option HeadingWord
heading_next [] = None
heading_next (t ∷ ts) = first_of heading_word headings t
