-- What headings begin with.
use Rattle.std.specs.Prelude.{codes}
use Rattle.std.proofs.Common.{◌≡◌, ℕ, Bool, true, false, ◌||◌, List, [], ◌∷◌, ◌++◌, refl, sym, ap, subst, ◌∙◌, is_some, Option, Some, None}
use Rattle.mz_base.specs.declared.place.Place.{Place}
use Rattle.mz_base.specs.declared.token.MarkedToken.{MarkedToken}
use Rattle.mz_forms.proofs.Compose.{head_of}
use Rattle.mz_forms.proofs.Lists.{Begun}
use Rattle.mz_tree.specs.declared.lists.Separated.{Separated}
use Rattle.mz_tree.specs.Trees.{TypeData, ModeType, no_adjectives}
use Rattle.mz_tree_heading.specs.declared.heading.HeadingTree.{HeadingTree}
use Rattle.mz_tree_heading.specs.declared.heading.HeadingTree.TheVariants as trees
use Rattle.mz_tree_heading.specs.declared.meaning.CasesTree.TheVariants as cases_tree
use Rattle.mz_tree_heading.specs.declared.meaning.MeaningTree.{MeaningTree}
use Rattle.mz_tree_heading.specs.declared.meaning.MeaningTree.TheVariants as meanings
use Rattle.mz_tree_heading.specs.declared.patterns.FunctorPatternTree.TheVariants as functor_patterns
use Rattle.mz_tree_heading.specs.declared.structure.FieldTree.{FieldTree}
use Rattle.mz_tree_heading.specs.Spell.{spell_heading}
use Rattle.mz_pterm.proofs.Bases.{word_at}
use Rattle.mz_pformula.proofs.Quantifiers.{some_formula}
use Rattle.mz_pjustification.proofs.Taken.{nowhere}
use Rattle.mz_ppattern.specs.Words.{is_word, word_token}
use Rattle.mz_ppattern.proofs.WordSteps.{word_told}
use Rattle.mz_ppart.specs.WordLists.{first_of}
use Rattle.mz_ppart.proofs.ChosenWords.{All, first_hit}
use Rattle.mz_pheading.specs.declared.headings.HeadingWord.{HeadingWord}
use Rattle.mz_pheading.specs.declared.headings.HeadingWord.TheVariants as heading_words
use Rattle.mz_pheading.specs.Classes.{heading_word, headings}
use Rattle.mz_pheading.specs.HeadingForms.{heading_form}

abbrev pub begins_heading : MarkedToken → Bool
begins_heading t = is_some (first_of heading_word headings t)

abbrev any_heading : HeadingWord → Bool
any_heading w = true

all_headings : All any_heading headings
all_headings = (refl, (refl, (refl, (refl, (refl, (refl, tt))))))

pub heading_hit : (t : MarkedToken) (w : HeadingWord) → first_of heading_word headings t ≡ Some w → is_word (heading_word w) t ≡ true
heading_hit t w e = (first_hit heading_word any_heading headings t w all_headings e).0

begins_own : (w : HeadingWord) (p : Place) → begins_heading (word_token (heading_word w) p) ≡ true
begins_own heading_words.Func p = refl
begins_own heading_words.Pred p = refl
begins_own heading_words.Attr p = refl
begins_own heading_words.Mode p = refl
begins_own heading_words.Struct p = refl
begins_own heading_words.Redefine p = refl

pub heading_first : (h : HeadingTree) (v : List MarkedToken) (t : MarkedToken) (m : List MarkedToken) → spell_heading h ++ v ≡ t ∷ m → begins_heading t ≡ true
heading_first (trees.Functor a) v t m e = ap begins_heading (sym (head_of _ _ _ _ e)) ∙ begins_own heading_words.Func a.func
heading_first (trees.Predicate a) v t m e = ap begins_heading (sym (head_of _ _ _ _ e)) ∙ begins_own heading_words.Pred a.pred
heading_first (trees.Attribute a) v t m e = ap begins_heading (sym (head_of _ _ _ _ e)) ∙ begins_own heading_words.Attr a.attr
heading_first (trees.Mode a) v t m e = ap begins_heading (sym (head_of _ _ _ _ e)) ∙ begins_own heading_words.Mode a.mode
heading_first (trees.Abbreviation a) v t m e = ap begins_heading (sym (head_of _ _ _ _ e)) ∙ begins_own heading_words.Mode a.mode
heading_first (trees.Structure a) v t m e = ap begins_heading (sym (head_of _ _ _ _ e)) ∙ begins_own heading_words.Struct a.struct_
heading_first (trees.RedefinedFunctor p a) v t m e = ap begins_heading (sym (head_of _ _ _ _ e)) ∙ begins_own heading_words.Redefine p
heading_first (trees.RedefinedPredicate p a) v t m e = ap begins_heading (sym (head_of _ _ _ _ e)) ∙ begins_own heading_words.Redefine p
heading_first (trees.RedefinedAttribute p a) v t m e = ap begins_heading (sym (head_of _ _ _ _ e)) ∙ begins_own heading_words.Redefine p
heading_first (trees.RedefinedMode p a) v t m e = ap begins_heading (sym (head_of _ _ _ _ e)) ∙ begins_own heading_words.Redefine p

pub heading_filled : (h : HeadingTree) (v : List MarkedToken) → spell_heading h ++ v ≡ [] → ⊥
heading_filled (trees.Functor a) v e = cc
heading_filled (trees.Predicate a) v e = cc
heading_filled (trees.Attribute a) v e = cc
heading_filled (trees.Mode a) v e = cc
heading_filled (trees.Abbreviation a) v e = cc
heading_filled (trees.Structure a) v e = cc
heading_filled (trees.RedefinedFunctor p a) v e = cc
heading_filled (trees.RedefinedPredicate p a) v e = cc
heading_filled (trees.RedefinedAttribute p a) v e = cc
heading_filled (trees.RedefinedMode p a) v e = cc

-- Examples.
abbrev some_meaning : MeaningTree
some_meaning = meanings.Means nowhere None (cases_tree.Plain some_formula)

abbrev some_type : TypeData
some_type = ModeType no_adjectives (word_at nowhere)

abbrev some_fields : Separated FieldTree
some_fields = record { first = record { selectors = record { first = record { symbol = word_at nowhere }; more = [] }; arrow = nowhere; ty = some_type }; more = [] }

abbrev some_heading : HeadingWord → Place → HeadingTree
some_heading heading_words.Func p = trees.Functor (record { func = p; pattern = functor_patterns.Symbol (record { left = None; symbol = word_at nowhere; priority = 0; right = None }); result = None; meaning = some_meaning; semicolon = nowhere })
some_heading heading_words.Pred p = trees.Predicate (record { pred = p; pattern = record { left = None; symbol = word_at nowhere; right = None }; meaning = some_meaning; semicolon = nowhere })
some_heading heading_words.Attr p = trees.Attribute (record { attr = p; pattern = record { subject = word_at nowhere; is = nowhere; loci = None; symbol = word_at nowhere }; meaning = some_meaning; semicolon = nowhere })
some_heading heading_words.Mode p = trees.Abbreviation (record { mode = p; pattern = record { symbol = word_at nowhere; loci = None }; is = nowhere; ty = some_type; semicolon = nowhere })
some_heading heading_words.Struct p = trees.Structure (record { struct_ = p; ancestors = None; symbol = word_at nowhere; loci = None; left = nowhere; fields = some_fields; right = nowhere; semicolon = nowhere })
some_heading heading_words.Redefine p = trees.RedefinedPredicate p (record { pred = nowhere; pattern = record { left = None; symbol = word_at nowhere; right = None }; meaning = None; semicolon = nowhere })

some_heading_is : (w : HeadingWord) (p : Place) → heading_form.IsTree (some_heading w p)
some_heading_is heading_words.Func p = ((tt, ((tt, tt), tt)), refl)
some_heading_is heading_words.Pred p = (((tt, tt), tt), refl)
some_heading_is heading_words.Attr p = (((tt, tt), tt), refl)
some_heading_is heading_words.Mode p = (tt, refl)
some_heading_is heading_words.Struct p = ((tt, (tt, tt)), refl)
some_heading_is heading_words.Redefine p = (tt, refl)

abbrev behind_first : List MarkedToken → List MarkedToken
behind_first [] = []
behind_first (t ∷ ts) = ts

spell_heading-begins_so : (w : HeadingWord) (p : Place) → spell_heading (some_heading w p) ≡ word_token (heading_word w) p ∷ behind_first (spell_heading (some_heading w p))
spell_heading-begins_so heading_words.Func p = refl
spell_heading-begins_so heading_words.Pred p = refl
spell_heading-begins_so heading_words.Attr p = refl
spell_heading-begins_so heading_words.Mode p = refl
spell_heading-begins_so heading_words.Struct p = refl
spell_heading-begins_so heading_words.Redefine p = refl

pub begun_heading : (t : MarkedToken) (w : HeadingWord) → first_of heading_word headings t ≡ Some w → Begun heading_form t
begun_heading t w e = (
  some_heading w t.token.place,
  behind_first (spell_heading (some_heading w t.token.place)),
  some_heading_is w t.token.place,
  spell_heading-begins_so w t.token.place ∙ ap (λ z. z ∷ behind_first (spell_heading (some_heading w t.token.place))) (sym (word_told (heading_word w) t (heading_hit t w e))),
)
