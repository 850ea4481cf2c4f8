-- The choice of a heading by its first word.
use Rattle.std.specs.Prelude.{codes}
use Rattle.std.proofs.Common.{◌≡◌, ℕ, Bool, true, false, ◌||◌, ◌&&◌, List, [], ◌∷◌, length, refl, sym, ap, ◌∙◌, Option, Some, None, is_some, Result, Ok, Err}
use Rattle.mz_base.specs.declared.place.Place.{Place}
use Rattle.mz_base.specs.declared.token.MarkedToken.{MarkedToken}
use Rattle.mz_forms.specs.declared.refusal.Refusal.{Refusal}
use Rattle.mz_forms.specs.declared.refusal.Refusal.TheVariants as refusals
use Rattle.mz_forms.specs.Form.{Form, Agrees, Fails, Found, Leads, is_empty, then}
use Rattle.mz_forms.specs.Reading.{Reads, Refuses}
use Rattle.mz_forms.proofs.Choose.{Reshapes, fails_here}
use Rattle.mz_forms.proofs.Compose.{Apart}
use Rattle.mz_forms.proofs.Leads.{leads_as, apart_closed, passes}
use Rattle.mz_tree_heading.specs.declared.heading.FunctorHeadingTree.{FunctorHeadingTree}
use Rattle.mz_tree_heading.specs.declared.heading.PredicateHeadingTree.{PredicateHeadingTree}
use Rattle.mz_tree_heading.specs.declared.heading.AttributeHeadingTree.{AttributeHeadingTree}
use Rattle.mz_tree_heading.specs.declared.heading.ModeHeadingTree.{ModeHeadingTree}
use Rattle.mz_tree_heading.specs.declared.heading.HeadingTree.{HeadingTree}
use Rattle.mz_tree_heading.specs.declared.heading.HeadingTree.TheVariants as heading_tree
use Rattle.mz_tree_heading.specs.declared.meaning.MeaningTree.{MeaningTree}
use Rattle.mz_tree_heading.specs.declared.structure.StructureTree.{StructureTree}
use Rattle.mz_tree_heading.specs.Rules.{IsHeading}
use Rattle.mz_tree_heading.specs.Spell.{spell_heading}
use Rattle.mz_pjustification.proofs.Taken.{nowhere}
use Rattle.mz_ppattern.specs.Optional.{plainly}
use Rattle.mz_ppattern.specs.Words.{word_form, word_token}
use Rattle.mz_ppart.specs.StructureForms.{structure_form}
use Rattle.mz_ppart.specs.WordLists.{first_of}
use Rattle.mz_pmeaning.specs.MeaningForms.{meaning_form, means_form, optional_meaning, optional_means}
use Rattle.mz_pmeaning.proofs.Steps.{next, stopped}
use Rattle.mz_pheading.specs.declared.headings.HeadingWord.{HeadingWord}
use Rattle.mz_pheading.specs.declared.headings.HeadingWord.TheVariants as heading_words
use Rattle.mz_pheading.specs.Classes.{heading_next, heading_word, headings}
use Rattle.mz_pheading.specs.HeadingForms.{attribute_heading_form, functor_heading_form, heading_form, predicate_heading_form, redefined_form, states, IsRedefined}
use Rattle.mz_pheading.specs.ModeForms.{mode_form, redefined_mode_form, stated}
use Rattle.mz_pheading.proofs.HeadingSequences.{some_functor_pattern}
use Rattle.mz_pheading.proofs.ModeSteps.{some_meaning}

-- The word that a heading begins with.
abbrev pub word_of_heading : HeadingTree → HeadingWord
word_of_heading (heading_tree.Functor a) = heading_words.Func
word_of_heading (heading_tree.Predicate a) = heading_words.Pred
word_of_heading (heading_tree.Attribute a) = heading_words.Attr
word_of_heading (heading_tree.Mode a) = heading_words.Mode
word_of_heading (heading_tree.Abbreviation a) = heading_words.Mode
word_of_heading (heading_tree.Structure a) = heading_words.Struct
word_of_heading (heading_tree.RedefinedFunctor p a) = heading_words.Redefine
word_of_heading (heading_tree.RedefinedPredicate p a) = heading_words.Redefine
word_of_heading (heading_tree.RedefinedAttribute p a) = heading_words.Redefine
word_of_heading (heading_tree.RedefinedMode p a) = heading_words.Redefine

first_of-own : (w : HeadingWord) (p : Place) → first_of heading_word headings (word_token (heading_word w) p) ≡ Some w
first_of-own heading_words.Func p = refl
first_of-own heading_words.Pred p = refl
first_of-own heading_words.Attr p = refl
first_of-own heading_words.Mode p = refl
first_of-own heading_words.Struct p = refl
first_of-own heading_words.Redefine p = refl

heading_next-word_told : (w : HeadingWord) (p : Place) (m b : List MarkedToken) → Agrees b (word_token (heading_word w) p ∷ m) → heading_next b ≡ Some w
heading_next-word_told w p m [] g = absurd g
heading_next-word_told w p m (t ∷ b) g = ap (first_of heading_word headings) (sym g) ∙ first_of-own w p

-- what the next tokens say of a heading that they begin
pub heading_next-told : (x : HeadingTree) (b : List MarkedToken) → Agrees b (spell_heading x) → heading_next b ≡ Some (word_of_heading x)
heading_next-told (heading_tree.Functor a) b g = heading_next-word_told heading_words.Func a.func _ b g
heading_next-told (heading_tree.Predicate a) b g = heading_next-word_told heading_words.Pred a.pred _ b g
heading_next-told (heading_tree.Attribute a) b g = heading_next-word_told heading_words.Attr a.attr _ b g
heading_next-told (heading_tree.Mode a) b g = heading_next-word_told heading_words.Mode a.mode _ b g
heading_next-told (heading_tree.Abbreviation a) b g = heading_next-word_told heading_words.Mode a.mode _ b g
heading_next-told (heading_tree.Structure a) b g = heading_next-word_told heading_words.Struct a.struct_ _ b g
heading_next-told (heading_tree.RedefinedFunctor p a) b g = heading_next-word_told heading_words.Redefine p _ b g
heading_next-told (heading_tree.RedefinedPredicate p a) b g = heading_next-word_told heading_words.Redefine p _ b g
heading_next-told (heading_tree.RedefinedAttribute p a) b g = heading_next-word_told heading_words.Redefine p _ b g
heading_next-told (heading_tree.RedefinedMode p a) b g = heading_next-word_told heading_words.Redefine p _ b g

-- no two words are one
apart_words : {P : Type 0} (b : List MarkedToken) (v w : HeadingWord) → heading_next b ≡ Some v → heading_next b ≡ Some w → (Some v ≡ Some w → P) → P
apart_words b v w e f h = h (sym e ∙ f)

mode_into : (x : HeadingTree) → mode_form.IsTree x → IsHeading x × (states x ≡ true)
mode_into (heading_tree.Functor a) is = absurd is
mode_into (heading_tree.Predicate a) is = absurd is
mode_into (heading_tree.Attribute a) is = absurd is
mode_into (heading_tree.Mode a) is = (is, refl)
mode_into (heading_tree.Abbreviation a) is = (is, refl)
mode_into (heading_tree.Structure a) is = absurd is
mode_into (heading_tree.RedefinedFunctor p a) is = absurd is
mode_into (heading_tree.RedefinedPredicate p a) is = absurd is
mode_into (heading_tree.RedefinedAttribute p a) is = absurd is
mode_into (heading_tree.RedefinedMode p a) is = absurd is

redefined_into : (x : HeadingTree) → IsRedefined x → IsHeading x × (states x ≡ true)
redefined_into (heading_tree.Functor a) is = absurd is
redefined_into (heading_tree.Predicate a) is = absurd is
redefined_into (heading_tree.Attribute a) is = absurd is
redefined_into (heading_tree.Mode a) is = absurd is
redefined_into (heading_tree.Abbreviation a) is = absurd is
redefined_into (heading_tree.Structure a) is = absurd is
redefined_into (heading_tree.RedefinedFunctor p a) is = (is, refl)
redefined_into (heading_tree.RedefinedPredicate p a) is = (is, refl)
redefined_into (heading_tree.RedefinedAttribute p a) is = is
redefined_into (heading_tree.RedefinedMode p a) is = is

abbrev pub put_functor : FunctorHeadingTree MeaningTree → HeadingTree
put_functor a = heading_tree.Functor a

pub as_functor : (b : List MarkedToken) → heading_next b ≡ Some heading_words.Func → Reshapes heading_form (functor_heading_form meaning_form) put_functor b
as_functor b h = record {
  into = λ a is. (is, refl);
  spells = λ a is. refl;
  only = λ x is g. only x is g;
  goes = λ k t is g. g;
  level = λ a is. refl;
}
  where
    only : (x : HeadingTree) → IsHeading x × (states x ≡ true) → Agrees b (spell_heading x) → (a : FunctorHeadingTree MeaningTree) × (functor_heading_form meaning_form).IsTree a × (x ≡ put_functor a)
    only (heading_tree.Functor a) is g = (a, is.0, refl)
    only (heading_tree.Predicate a) is g = apart_words b heading_words.Func heading_words.Pred h (heading_next-told (heading_tree.Predicate a) b g) (λ e. cc)
    only (heading_tree.Attribute a) is g = apart_words b heading_words.Func heading_words.Attr h (heading_next-told (heading_tree.Attribute a) b g) (λ e. cc)
    only (heading_tree.Mode a) is g = apart_words b heading_words.Func heading_words.Mode h (heading_next-told (heading_tree.Mode a) b g) (λ e. cc)
    only (heading_tree.Abbreviation a) is g = apart_words b heading_words.Func heading_words.Mode h (heading_next-told (heading_tree.Abbreviation a) b g) (λ e. cc)
    only (heading_tree.Structure a) is g = apart_words b heading_words.Func heading_words.Struct h (heading_next-told (heading_tree.Structure a) b g) (λ e. cc)
    only (heading_tree.RedefinedFunctor p a) is g = apart_words b heading_words.Func heading_words.Redefine h (heading_next-told (heading_tree.RedefinedFunctor p a) b g) (λ e. cc)
    only (heading_tree.RedefinedPredicate p a) is g = apart_words b heading_words.Func heading_words.Redefine h (heading_next-told (heading_tree.RedefinedPredicate p a) b g) (λ e. cc)
    only (heading_tree.RedefinedAttribute p a) is g = apart_words b heading_words.Func heading_words.Redefine h (heading_next-told (heading_tree.RedefinedAttribute p a) b g) (λ e. cc)
    only (heading_tree.RedefinedMode p a) is g = apart_words b heading_words.Func heading_words.Redefine h (heading_next-told (heading_tree.RedefinedMode p a) b g) (λ e. cc)

pub functor_read : (room : ℕ) (b after : List MarkedToken) (a : FunctorHeadingTree MeaningTree) → heading_next b ≡ Some heading_words.Func → Found (functor_heading_form meaning_form) room b a after → Found heading_form room b (put_functor a) after
functor_read room b after a h f = (leads_as heading_form (functor_heading_form meaning_form) put_functor room b (as_functor b h)).finds a after f

pub functor_unread : (room : ℕ) (b after : List MarkedToken) (e : Refusal) → heading_next b ≡ Some heading_words.Func → Refuses (functor_heading_form meaning_form) room b e after → Refuses heading_form room b e after
functor_unread room b after e h r = passes heading_form (functor_heading_form meaning_form) room put_functor b b after e (leads_as heading_form (functor_heading_form meaning_form) put_functor room b (as_functor b h)) r

abbrev pub put_predicate : PredicateHeadingTree MeaningTree → HeadingTree
put_predicate a = heading_tree.Predicate a

pub as_predicate : (b : List MarkedToken) → heading_next b ≡ Some heading_words.Pred → Reshapes heading_form (predicate_heading_form means_form) put_predicate b
as_predicate b h = record {
  into = λ a is. (is, refl);
  spells = λ a is. refl;
  only = λ x is g. only x is g;
  goes = λ k t is g. g;
  level = λ a is. refl;
}
  where
    only : (x : HeadingTree) → IsHeading x × (states x ≡ true) → Agrees b (spell_heading x) → (a : PredicateHeadingTree MeaningTree) × (predicate_heading_form means_form).IsTree a × (x ≡ put_predicate a)
    only (heading_tree.Functor a) is g = apart_words b heading_words.Pred heading_words.Func h (heading_next-told (heading_tree.Functor a) b g) (λ e. cc)
    only (heading_tree.Predicate a) is g = (a, is.0, refl)
    only (heading_tree.Attribute a) is g = apart_words b heading_words.Pred heading_words.Attr h (heading_next-told (heading_tree.Attribute a) b g) (λ e. cc)
    only (heading_tree.Mode a) is g = apart_words b heading_words.Pred heading_words.Mode h (heading_next-told (heading_tree.Mode a) b g) (λ e. cc)
    only (heading_tree.Abbreviation a) is g = apart_words b heading_words.Pred heading_words.Mode h (heading_next-told (heading_tree.Abbreviation a) b g) (λ e. cc)
    only (heading_tree.Structure a) is g = apart_words b heading_words.Pred heading_words.Struct h (heading_next-told (heading_tree.Structure a) b g) (λ e. cc)
    only (heading_tree.RedefinedFunctor p a) is g = apart_words b heading_words.Pred heading_words.Redefine h (heading_next-told (heading_tree.RedefinedFunctor p a) b g) (λ e. cc)
    only (heading_tree.RedefinedPredicate p a) is g = apart_words b heading_words.Pred heading_words.Redefine h (heading_next-told (heading_tree.RedefinedPredicate p a) b g) (λ e. cc)
    only (heading_tree.RedefinedAttribute p a) is g = apart_words b heading_words.Pred heading_words.Redefine h (heading_next-told (heading_tree.RedefinedAttribute p a) b g) (λ e. cc)
    only (heading_tree.RedefinedMode p a) is g = apart_words b heading_words.Pred heading_words.Redefine h (heading_next-told (heading_tree.RedefinedMode p a) b g) (λ e. cc)

pub predicate_read : (room : ℕ) (b after : List MarkedToken) (a : PredicateHeadingTree MeaningTree) → heading_next b ≡ Some heading_words.Pred → Found (predicate_heading_form means_form) room b a after → Found heading_form room b (put_predicate a) after
predicate_read room b after a h f = (leads_as heading_form (predicate_heading_form means_form) put_predicate room b (as_predicate b h)).finds a after f

pub predicate_unread : (room : ℕ) (b after : List MarkedToken) (e : Refusal) → heading_next b ≡ Some heading_words.Pred → Refuses (predicate_heading_form means_form) room b e after → Refuses heading_form room b e after
predicate_unread room b after e h r = passes heading_form (predicate_heading_form means_form) room put_predicate b b after e (leads_as heading_form (predicate_heading_form means_form) put_predicate room b (as_predicate b h)) r

abbrev pub put_attribute : AttributeHeadingTree MeaningTree → HeadingTree
put_attribute a = heading_tree.Attribute a

pub as_attribute : (b : List MarkedToken) → heading_next b ≡ Some heading_words.Attr → Reshapes heading_form (attribute_heading_form means_form) put_attribute b
as_attribute b h = record {
  into = λ a is. (is, refl);
  spells = λ a is. refl;
  only = λ x is g. only x is g;
  goes = λ k t is g. g;
  level = λ a is. refl;
}
  where
    only : (x : HeadingTree) → IsHeading x × (states x ≡ true) → Agrees b (spell_heading x) → (a : AttributeHeadingTree MeaningTree) × (attribute_heading_form means_form).IsTree a × (x ≡ put_attribute a)
    only (heading_tree.Functor a) is g = apart_words b heading_words.Attr heading_words.Func h (heading_next-told (heading_tree.Functor a) b g) (λ e. cc)
    only (heading_tree.Predicate a) is g = apart_words b heading_words.Attr heading_words.Pred h (heading_next-told (heading_tree.Predicate a) b g) (λ e. cc)
    only (heading_tree.Attribute a) is g = (a, is.0, refl)
    only (heading_tree.Mode a) is g = apart_words b heading_words.Attr heading_words.Mode h (heading_next-told (heading_tree.Mode a) b g) (λ e. cc)
    only (heading_tree.Abbreviation a) is g = apart_words b heading_words.Attr heading_words.Mode h (heading_next-told (heading_tree.Abbreviation a) b g) (λ e. cc)
    only (heading_tree.Structure a) is g = apart_words b heading_words.Attr heading_words.Struct h (heading_next-told (heading_tree.Structure a) b g) (λ e. cc)
    only (heading_tree.RedefinedFunctor p a) is g = apart_words b heading_words.Attr heading_words.Redefine h (heading_next-told (heading_tree.RedefinedFunctor p a) b g) (λ e. cc)
    only (heading_tree.RedefinedPredicate p a) is g = apart_words b heading_words.Attr heading_words.Redefine h (heading_next-told (heading_tree.RedefinedPredicate p a) b g) (λ e. cc)
    only (heading_tree.RedefinedAttribute p a) is g = apart_words b heading_words.Attr heading_words.Redefine h (heading_next-told (heading_tree.RedefinedAttribute p a) b g) (λ e. cc)
    only (heading_tree.RedefinedMode p a) is g = apart_words b heading_words.Attr heading_words.Redefine h (heading_next-told (heading_tree.RedefinedMode p a) b g) (λ e. cc)

pub attribute_read : (room : ℕ) (b after : List MarkedToken) (a : AttributeHeadingTree MeaningTree) → heading_next b ≡ Some heading_words.Attr → Found (attribute_heading_form means_form) room b a after → Found heading_form room b (put_attribute a) after
attribute_read room b after a h f = (leads_as heading_form (attribute_heading_form means_form) put_attribute room b (as_attribute b h)).finds a after f

pub attribute_unread : (room : ℕ) (b after : List MarkedToken) (e : Refusal) → heading_next b ≡ Some heading_words.Attr → Refuses (attribute_heading_form means_form) room b e after → Refuses heading_form room b e after
attribute_unread room b after e h r = passes heading_form (attribute_heading_form means_form) room put_attribute b b after e (leads_as heading_form (attribute_heading_form means_form) put_attribute room b (as_attribute b h)) r

abbrev pub put_structure : StructureTree → HeadingTree
put_structure a = heading_tree.Structure a

pub as_structure : (b : List MarkedToken) → heading_next b ≡ Some heading_words.Struct → Reshapes heading_form structure_form put_structure b
as_structure b h = record {
  into = λ a is. (is, refl);
  spells = λ a is. refl;
  only = λ x is g. only x is g;
  goes = λ k t is g. g;
  level = λ a is. refl;
}
  where
    only : (x : HeadingTree) → IsHeading x × (states x ≡ true) → Agrees b (spell_heading x) → (a : StructureTree) × structure_form.IsTree a × (x ≡ put_structure a)
    only (heading_tree.Functor a) is g = apart_words b heading_words.Struct heading_words.Func h (heading_next-told (heading_tree.Functor a) b g) (λ e. cc)
    only (heading_tree.Predicate a) is g = apart_words b heading_words.Struct heading_words.Pred h (heading_next-told (heading_tree.Predicate a) b g) (λ e. cc)
    only (heading_tree.Attribute a) is g = apart_words b heading_words.Struct heading_words.Attr h (heading_next-told (heading_tree.Attribute a) b g) (λ e. cc)
    only (heading_tree.Mode a) is g = apart_words b heading_words.Struct heading_words.Mode h (heading_next-told (heading_tree.Mode a) b g) (λ e. cc)
    only (heading_tree.Abbreviation a) is g = apart_words b heading_words.Struct heading_words.Mode h (heading_next-told (heading_tree.Abbreviation a) b g) (λ e. cc)
    only (heading_tree.Structure a) is g = (a, is.0, refl)
    only (heading_tree.RedefinedFunctor p a) is g = apart_words b heading_words.Struct heading_words.Redefine h (heading_next-told (heading_tree.RedefinedFunctor p a) b g) (λ e. cc)
    only (heading_tree.RedefinedPredicate p a) is g = apart_words b heading_words.Struct heading_words.Redefine h (heading_next-told (heading_tree.RedefinedPredicate p a) b g) (λ e. cc)
    only (heading_tree.RedefinedAttribute p a) is g = apart_words b heading_words.Struct heading_words.Redefine h (heading_next-told (heading_tree.RedefinedAttribute p a) b g) (λ e. cc)
    only (heading_tree.RedefinedMode p a) is g = apart_words b heading_words.Struct heading_words.Redefine h (heading_next-told (heading_tree.RedefinedMode p a) b g) (λ e. cc)

pub structure_read : (room : ℕ) (b after : List MarkedToken) (a : StructureTree) → heading_next b ≡ Some heading_words.Struct → Found structure_form room b a after → Found heading_form room b (put_structure a) after
structure_read room b after a h f = (leads_as heading_form structure_form put_structure room b (as_structure b h)).finds a after f

pub structure_unread : (room : ℕ) (b after : List MarkedToken) (e : Refusal) → heading_next b ≡ Some heading_words.Struct → Refuses structure_form room b e after → Refuses heading_form room b e after
structure_unread room b after e h r = passes heading_form structure_form room put_structure b b after e (leads_as heading_form structure_form put_structure room b (as_structure b h)) r

abbrev pub put_mode : HeadingTree → HeadingTree
put_mode a = a

pub as_mode : (b : List MarkedToken) → heading_next b ≡ Some heading_words.Mode → Reshapes heading_form mode_form put_mode b
as_mode b h = record {
  into = λ a is. mode_into a is;
  spells = λ a is. refl;
  only = λ x is g. only x is g;
  goes = λ k t is g. g;
  level = λ a is. refl;
}
  where
    only : (x : HeadingTree) → IsHeading x × (states x ≡ true) → Agrees b (spell_heading x) → (a : HeadingTree) × mode_form.IsTree a × (x ≡ put_mode a)
    only (heading_tree.Functor a) is g = apart_words b heading_words.Mode heading_words.Func h (heading_next-told (heading_tree.Functor a) b g) (λ e. cc)
    only (heading_tree.Predicate a) is g = apart_words b heading_words.Mode heading_words.Pred h (heading_next-told (heading_tree.Predicate a) b g) (λ e. cc)
    only (heading_tree.Attribute a) is g = apart_words b heading_words.Mode heading_words.Attr h (heading_next-told (heading_tree.Attribute a) b g) (λ e. cc)
    only (heading_tree.Mode a) is g = (heading_tree.Mode a, is.0, refl)
    only (heading_tree.Abbreviation a) is g = (heading_tree.Abbreviation a, is.0, refl)
    only (heading_tree.Structure a) is g = apart_words b heading_words.Mode heading_words.Struct h (heading_next-told (heading_tree.Structure a) b g) (λ e. cc)
    only (heading_tree.RedefinedFunctor p a) is g = apart_words b heading_words.Mode heading_words.Redefine h (heading_next-told (heading_tree.RedefinedFunctor p a) b g) (λ e. cc)
    only (heading_tree.RedefinedPredicate p a) is g = apart_words b heading_words.Mode heading_words.Redefine h (heading_next-told (heading_tree.RedefinedPredicate p a) b g) (λ e. cc)
    only (heading_tree.RedefinedAttribute p a) is g = apart_words b heading_words.Mode heading_words.Redefine h (heading_next-told (heading_tree.RedefinedAttribute p a) b g) (λ e. cc)
    only (heading_tree.RedefinedMode p a) is g = apart_words b heading_words.Mode heading_words.Redefine h (heading_next-told (heading_tree.RedefinedMode p a) b g) (λ e. cc)

pub mode_read : (room : ℕ) (b after : List MarkedToken) (a : HeadingTree) → heading_next b ≡ Some heading_words.Mode → Found mode_form room b a after → Found heading_form room b (put_mode a) after
mode_read room b after a h f = (leads_as heading_form mode_form put_mode room b (as_mode b h)).finds a after f

pub mode_unread : (room : ℕ) (b after : List MarkedToken) (e : Refusal) → heading_next b ≡ Some heading_words.Mode → Refuses mode_form room b e after → Refuses heading_form room b e after
mode_unread room b after e h r = passes heading_form mode_form room put_mode b b after e (leads_as heading_form mode_form put_mode room b (as_mode b h)) r

abbrev pub put_redefinition : HeadingTree → HeadingTree
put_redefinition a = a

pub as_redefinition : (b : List MarkedToken) → heading_next b ≡ Some heading_words.Redefine → Reshapes heading_form redefined_form put_redefinition b
as_redefinition b h = record {
  into = λ a is. redefined_into a is;
  spells = λ a is. refl;
  only = λ x is g. only x is g;
  goes = λ k t is g. g;
  level = λ a is. refl;
}
  where
    only : (x : HeadingTree) → IsHeading x × (states x ≡ true) → Agrees b (spell_heading x) → (a : HeadingTree) × redefined_form.IsTree a × (x ≡ put_redefinition a)
    only (heading_tree.Functor a) is g = apart_words b heading_words.Redefine heading_words.Func h (heading_next-told (heading_tree.Functor a) b g) (λ e. cc)
    only (heading_tree.Predicate a) is g = apart_words b heading_words.Redefine heading_words.Pred h (heading_next-told (heading_tree.Predicate a) b g) (λ e. cc)
    only (heading_tree.Attribute a) is g = apart_words b heading_words.Redefine heading_words.Attr h (heading_next-told (heading_tree.Attribute a) b g) (λ e. cc)
    only (heading_tree.Mode a) is g = apart_words b heading_words.Redefine heading_words.Mode h (heading_next-told (heading_tree.Mode a) b g) (λ e. cc)
    only (heading_tree.Abbreviation a) is g = apart_words b heading_words.Redefine heading_words.Mode h (heading_next-told (heading_tree.Abbreviation a) b g) (λ e. cc)
    only (heading_tree.Structure a) is g = apart_words b heading_words.Redefine heading_words.Struct h (heading_next-told (heading_tree.Structure a) b g) (λ e. cc)
    only (heading_tree.RedefinedFunctor p a) is g = (heading_tree.RedefinedFunctor p a, is.0, refl)
    only (heading_tree.RedefinedPredicate p a) is g = (heading_tree.RedefinedPredicate p a, is.0, refl)
    only (heading_tree.RedefinedAttribute p a) is g = (heading_tree.RedefinedAttribute p a, is, refl)
    only (heading_tree.RedefinedMode p a) is g = (heading_tree.RedefinedMode p a, is, refl)

pub redefinition_read : (room : ℕ) (b after : List MarkedToken) (a : HeadingTree) → heading_next b ≡ Some heading_words.Redefine → Found redefined_form room b a after → Found heading_form room b (put_redefinition a) after
redefinition_read room b after a h f = (leads_as heading_form redefined_form put_redefinition room b (as_redefinition b h)).finds a after f

pub redefinition_unread : (room : ℕ) (b after : List MarkedToken) (e : Refusal) → heading_next b ≡ Some heading_words.Redefine → Refuses redefined_form room b e after → Refuses heading_form room b e after
redefinition_unread room b after e h r = passes heading_form redefined_form room put_redefinition b b after e (leads_as heading_form redefined_form put_redefinition room b (as_redefinition b h)) r

pub gives_mode : (room : ℕ) (b : List MarkedToken) (result : Result HeadingTree Refusal) (after : List MarkedToken) → heading_next b ≡ Some heading_words.Mode → Reads mode_form room plainly b result after → Reads heading_form room plainly b result after
gives_mode room b (Ok x) after h f = mode_read room b after x h f
gives_mode room b (Err e) after h r = mode_unread room b after e h r

pub gives_redefinition : (room : ℕ) (b : List MarkedToken) (result : Result HeadingTree Refusal) (after : List MarkedToken) → heading_next b ≡ Some heading_words.Redefine → Reads redefined_form room plainly b result after → Reads heading_form room plainly b result after
gives_redefinition room b (Ok x) after h f = redefinition_read room b after x h f
gives_redefinition room b (Err e) after h r = redefinition_unread room b after e h r

-- no heading begins here
abbrev some_heading : HeadingTree
some_heading = heading_tree.Functor (record { func = nowhere; pattern = some_functor_pattern; result = None; meaning = some_meaning; semicolon = nowhere })

pub no_heading : (room : ℕ) (b : List MarkedToken) → heading_next b ≡ None → Fails heading_form room b b
no_heading room b h = fails_here heading_form room some_heading b ((tt, ((tt, tt), tt)), refl) (λ x is g. clash x (sym h ∙ heading_next-told x b g))
  where
    clash : (x : HeadingTree) → None ≡ Some (word_of_heading x) → ⊥
    clash x e = cc

-- Behind `redefine`.
pub data Again : Type 0 where
  functor_again : FunctorHeadingTree (Option MeaningTree) → Again
  predicate_again : PredicateHeadingTree (Option MeaningTree) → Again
  attribute_again : AttributeHeadingTree (Option MeaningTree) → Again
  mode_again : ModeHeadingTree (Option MeaningTree) → Again

abbrev pub spell_again : Again → List MarkedToken
spell_again (functor_again a) = (functor_heading_form optional_meaning).spell a
spell_again (predicate_again a) = (predicate_heading_form optional_means).spell a
spell_again (attribute_again a) = (attribute_heading_form (stated means_form)).spell a
spell_again (mode_again a) = redefined_mode_form.spell a

abbrev pub levels_again : Again → List ℕ
levels_again (functor_again a) = (functor_heading_form optional_meaning).levels a
levels_again (predicate_again a) = (predicate_heading_form optional_means).levels a
levels_again (attribute_again a) = (attribute_heading_form (stated means_form)).levels a
levels_again (mode_again a) = redefined_mode_form.levels a

abbrev pub IsAgain : Again → Type 0
IsAgain (functor_again a) = (functor_heading_form optional_meaning).IsTree a
IsAgain (predicate_again a) = (predicate_heading_form optional_means).IsTree a
IsAgain (attribute_again a) = (attribute_heading_form (stated means_form)).IsTree a
IsAgain (mode_again a) = redefined_mode_form.IsTree a

pub each_again : (x : Again) → length (levels_again x) ≡ length (spell_again x)
each_again (functor_again a) = (functor_heading_form optional_meaning).each a
each_again (predicate_again a) = (predicate_heading_form optional_means).each a
each_again (attribute_again a) = (attribute_heading_form (stated means_form)).each a
each_again (mode_again a) = redefined_mode_form.each a

abbrev pub again_form : Form MarkedToken
again_form = record { Tree = Again; spell = spell_again; levels = levels_again; each = each_again; IsTree = IsAgain; goes = λ _ _. false }

abbrev pub redefined_from : Place → Again → HeadingTree
redefined_from p (functor_again a) = heading_tree.RedefinedFunctor p a
redefined_from p (predicate_again a) = heading_tree.RedefinedPredicate p a
redefined_from p (attribute_again a) = heading_tree.RedefinedAttribute p a
redefined_from p (mode_again a) = heading_tree.RedefinedMode p a

abbrev pub word_of_again : Again → HeadingWord
word_of_again (functor_again a) = heading_words.Func
word_of_again (predicate_again a) = heading_words.Pred
word_of_again (attribute_again a) = heading_words.Attr
word_of_again (mode_again a) = heading_words.Mode

pub heading_next-told_again : (x : Again) (b : List MarkedToken) → Agrees b (spell_again x) → heading_next b ≡ Some (word_of_again x)
heading_next-told_again (functor_again a) b g = heading_next-word_told heading_words.Func a.func _ b g
heading_next-told_again (predicate_again a) b g = heading_next-word_told heading_words.Pred a.pred _ b g
heading_next-told_again (attribute_again a) b g = heading_next-word_told heading_words.Attr a.attr _ b g
heading_next-told_again (mode_again a) b g = heading_next-word_told heading_words.Mode a.mode _ b g

abbrev pub put_functor_again : FunctorHeadingTree (Option MeaningTree) → Again
put_functor_again a = functor_again a

pub as_functor_again : (b : List MarkedToken) → heading_next b ≡ Some heading_words.Func → Reshapes again_form (functor_heading_form optional_meaning) put_functor_again b
as_functor_again b h = record {
  into = λ a is. is;
  spells = λ a is. refl;
  only = λ x is g. only x is g;
  goes = λ k t is g. g;
  level = λ a is. refl;
}
  where
    only : (x : Again) → IsAgain x → Agrees b (spell_again x) → (a : FunctorHeadingTree (Option MeaningTree)) × (functor_heading_form optional_meaning).IsTree a × (x ≡ put_functor_again a)
    only (functor_again a) is g = (a, is, refl)
    only (predicate_again a) is g = apart_words b heading_words.Func heading_words.Pred h (heading_next-told_again (predicate_again a) b g) (λ e. cc)
    only (attribute_again a) is g = apart_words b heading_words.Func heading_words.Attr h (heading_next-told_again (attribute_again a) b g) (λ e. cc)
    only (mode_again a) is g = apart_words b heading_words.Func heading_words.Mode h (heading_next-told_again (mode_again a) b g) (λ e. cc)

abbrev pub put_predicate_again : PredicateHeadingTree (Option MeaningTree) → Again
put_predicate_again a = predicate_again a

pub as_predicate_again : (b : List MarkedToken) → heading_next b ≡ Some heading_words.Pred → Reshapes again_form (predicate_heading_form optional_means) put_predicate_again b
as_predicate_again b h = record {
  into = λ a is. is;
  spells = λ a is. refl;
  only = λ x is g. only x is g;
  goes = λ k t is g. g;
  level = λ a is. refl;
}
  where
    only : (x : Again) → IsAgain x → Agrees b (spell_again x) → (a : PredicateHeadingTree (Option MeaningTree)) × (predicate_heading_form optional_means).IsTree a × (x ≡ put_predicate_again a)
    only (functor_again a) is g = apart_words b heading_words.Pred heading_words.Func h (heading_next-told_again (functor_again a) b g) (λ e. cc)
    only (predicate_again a) is g = (a, is, refl)
    only (attribute_again a) is g = apart_words b heading_words.Pred heading_words.Attr h (heading_next-told_again (attribute_again a) b g) (λ e. cc)
    only (mode_again a) is g = apart_words b heading_words.Pred heading_words.Mode h (heading_next-told_again (mode_again a) b g) (λ e. cc)

abbrev pub put_attribute_again : AttributeHeadingTree (Option MeaningTree) → Again
put_attribute_again a = attribute_again a

pub as_attribute_again : (b : List MarkedToken) → heading_next b ≡ Some heading_words.Attr → Reshapes again_form (attribute_heading_form (stated means_form)) put_attribute_again b
as_attribute_again b h = record {
  into = λ a is. is;
  spells = λ a is. refl;
  only = λ x is g. only x is g;
  goes = λ k t is g. g;
  level = λ a is. refl;
}
  where
    only : (x : Again) → IsAgain x → Agrees b (spell_again x) → (a : AttributeHeadingTree (Option MeaningTree)) × (attribute_heading_form (stated means_form)).IsTree a × (x ≡ put_attribute_again a)
    only (functor_again a) is g = apart_words b heading_words.Attr heading_words.Func h (heading_next-told_again (functor_again a) b g) (λ e. cc)
    only (predicate_again a) is g = apart_words b heading_words.Attr heading_words.Pred h (heading_next-told_again (predicate_again a) b g) (λ e. cc)
    only (attribute_again a) is g = (a, is, refl)
    only (mode_again a) is g = apart_words b heading_words.Attr heading_words.Mode h (heading_next-told_again (mode_again a) b g) (λ e. cc)

abbrev pub put_mode_again : ModeHeadingTree (Option MeaningTree) → Again
put_mode_again a = mode_again a

pub as_mode_again : (b : List MarkedToken) → heading_next b ≡ Some heading_words.Mode → Reshapes again_form redefined_mode_form put_mode_again b
as_mode_again b h = record {
  into = λ a is. is;
  spells = λ a is. refl;
  only = λ x is g. only x is g;
  goes = λ k t is g. g;
  level = λ a is. refl;
}
  where
    only : (x : Again) → IsAgain x → Agrees b (spell_again x) → (a : ModeHeadingTree (Option MeaningTree)) × redefined_mode_form.IsTree a × (x ≡ put_mode_again a)
    only (functor_again a) is g = apart_words b heading_words.Mode heading_words.Func h (heading_next-told_again (functor_again a) b g) (λ e. cc)
    only (predicate_again a) is g = apart_words b heading_words.Mode heading_words.Pred h (heading_next-told_again (predicate_again a) b g) (λ e. cc)
    only (attribute_again a) is g = apart_words b heading_words.Mode heading_words.Attr h (heading_next-told_again (attribute_again a) b g) (λ e. cc)
    only (mode_again a) is g = (a, is, refl)

-- The word, and what stands behind it.
abbrev pub redefinition_1 : Form MarkedToken
redefinition_1 = then (word_form (codes "redefine")) (λ _. again_form)

abbrev pub make_redefinition : redefinition_1.Tree → HeadingTree
make_redefinition k = redefined_from k.0 k.1

pub redefinition_apart : Apart (word_form (codes "redefine")) (λ _. again_form)
redefinition_apart = apart_closed (word_form (codes "redefine")) (λ _. again_form) (λ a t. refl)

again_into : (p : Place) (x : Again) → IsAgain x → IsRedefined (redefined_from p x)
again_into p (functor_again a) is = is
again_into p (predicate_again a) is = is
again_into p (attribute_again a) is = stated_into a.meaning is
  where
    stated_into : (o : Option MeaningTree) → (stated means_form).IsTree o → optional_means.IsTree o × (is_some o ≡ true)
    stated_into None is = absurd is
    stated_into (Some x) is = (is, refl)
again_into p (mode_again a) is = is

again_from : (o : Option MeaningTree) → optional_means.IsTree o → is_some o ≡ true → (stated means_form).IsTree o
again_from None is h = cc
again_from (Some x) is h = is

again_spells : (p : Place) (x : Again) → spell_heading (redefined_from p x) ≡ word_token (codes "redefine") p ∷ spell_again x
again_spells p (functor_again a) = refl
again_spells p (predicate_again a) = refl
again_spells p (attribute_again a) = refl
again_spells p (mode_again a) = refl

again_levels : (p : Place) (x : Again) → redefined_form.levels (redefined_from p x) ≡ 0 ∷ levels_again x
again_levels p (functor_again a) = refl
again_levels p (predicate_again a) = refl
again_levels p (attribute_again a) = refl
again_levels p (mode_again a) = refl

pub only_redefinition : (x : HeadingTree) → IsRedefined x → (k : redefinition_1.Tree) × redefinition_1.IsTree k × (x ≡ make_redefinition k)
only_redefinition (heading_tree.Functor a) is = absurd is
only_redefinition (heading_tree.Predicate a) is = absurd is
only_redefinition (heading_tree.Attribute a) is = absurd is
only_redefinition (heading_tree.Mode a) is = absurd is
only_redefinition (heading_tree.Abbreviation a) is = absurd is
only_redefinition (heading_tree.Structure a) is = absurd is
only_redefinition (heading_tree.RedefinedFunctor p a) is = ((p, functor_again a), (tt, is), refl)
only_redefinition (heading_tree.RedefinedPredicate p a) is = ((p, predicate_again a), (tt, is), refl)
only_redefinition (heading_tree.RedefinedAttribute p a) is = ((p, attribute_again a), (tt, again_from a.meaning is.0 is.1), refl)
only_redefinition (heading_tree.RedefinedMode p a) is = ((p, mode_again a), (tt, is), refl)

again_off : (p q : Bool) → ((false || (p && q)) ≡ true) → q ≡ true
again_off true q g = g
again_off false q g = cc

pub as_again : (b : List MarkedToken) → Reshapes redefined_form redefinition_1 make_redefinition b
as_again b = record {
  into = λ k is. again_into k.0 k.1 is.1;
  spells = λ k is. again_spells k.0 k.1;
  only = λ x is g. only_redefinition x is;
  goes = λ k t is g. again_off (is_empty (spell_again k.1)) false g;
  level = λ k is. again_levels k.0 k.1;
}

begin_redefinition : (room : ℕ) (b : List MarkedToken) → Leads redefined_form redefinition_1 room make_redefinition b b
begin_redefinition room b = leads_as redefined_form redefinition_1 make_redefinition room b (as_again b)

abbrev some_again : Again
some_again = functor_again (record { func = nowhere; pattern = some_functor_pattern; result = None; meaning = None; semicolon = nowhere })

pub redefine_refused : (room : ℕ) (b after : List MarkedToken) (e : Refusal) → Refuses (word_form (codes "redefine")) room b e after → Refuses redefined_form room b e after
redefine_refused room b after e h = stopped redefined_form (word_form (codes "redefine")) (λ _. again_form) redefinition_apart room b b make_redefinition (begin_redefinition room b) after e (λ a is. (some_again, (tt, tt))) h

module _ (room : ℕ) (b : List MarkedToken) (p : Place) (c : List MarkedToken) (found : Found (word_form (codes "redefine")) room b p c) where
  at_redefine : Leads redefined_form again_form room (redefined_from p) b c
  at_redefine = next redefined_form (word_form (codes "redefine")) (λ _. again_form) redefinition_apart room b b make_redefinition (begin_redefinition room b) p c found

  pub nothing_again : heading_next c ≡ None → Refuses redefined_form room b refusals.Refused c
  nothing_again h = at_redefine.fails c (fails_here again_form room some_again c (tt, tt) (λ x is g. clash x (sym h ∙ heading_next-told_again x c g)))
    where
      clash : (x : Again) → None ≡ Some (word_of_again x) → ⊥
      clash x e = cc

  pub struct_again : heading_next c ≡ Some heading_words.Struct → Refuses redefined_form room b refusals.Refused c
  struct_again h = at_redefine.fails c (fails_here again_form room some_again c (tt, tt) (λ x is g. clash x (sym h ∙ heading_next-told_again x c g)))
    where
      clash : (x : Again) → Some heading_words.Struct ≡ Some (word_of_again x) → ⊥
      clash (functor_again a) e = cc
      clash (predicate_again a) e = cc
      clash (attribute_again a) e = cc
      clash (mode_again a) e = cc

  pub redefine_again : heading_next c ≡ Some heading_words.Redefine → Refuses redefined_form room b refusals.Refused c
  redefine_again h = at_redefine.fails c (fails_here again_form room some_again c (tt, tt) (λ x is g. clash x (sym h ∙ heading_next-told_again x c g)))
    where
      clash : (x : Again) → Some heading_words.Redefine ≡ Some (word_of_again x) → ⊥
      clash (functor_again a) e = cc
      clash (predicate_again a) e = cc
      clash (attribute_again a) e = cc
      clash (mode_again a) e = cc

  pub functor_again_found : (a : FunctorHeadingTree (Option MeaningTree)) (after : List MarkedToken) → heading_next c ≡ Some heading_words.Func → Found (functor_heading_form optional_meaning) room c a after → Found redefined_form room b (heading_tree.RedefinedFunctor p a) after
  functor_again_found a after h f = at_redefine.finds (functor_again a) after ((leads_as again_form (functor_heading_form optional_meaning) put_functor_again room c (as_functor_again c h)).finds a after f)

  pub functor_again_refused : (after : List MarkedToken) (e : Refusal) → heading_next c ≡ Some heading_words.Func → Refuses (functor_heading_form optional_meaning) room c e after → Refuses redefined_form room b e after
  functor_again_refused after e h r = passes redefined_form again_form room (redefined_from p) b c after e at_redefine (passes again_form (functor_heading_form optional_meaning) room put_functor_again c c after e (leads_as again_form (functor_heading_form optional_meaning) put_functor_again room c (as_functor_again c h)) r)

  pub predicate_again_found : (a : PredicateHeadingTree (Option MeaningTree)) (after : List MarkedToken) → heading_next c ≡ Some heading_words.Pred → Found (predicate_heading_form optional_means) room c a after → Found redefined_form room b (heading_tree.RedefinedPredicate p a) after
  predicate_again_found a after h f = at_redefine.finds (predicate_again a) after ((leads_as again_form (predicate_heading_form optional_means) put_predicate_again room c (as_predicate_again c h)).finds a after f)

  pub predicate_again_refused : (after : List MarkedToken) (e : Refusal) → heading_next c ≡ Some heading_words.Pred → Refuses (predicate_heading_form optional_means) room c e after → Refuses redefined_form room b e after
  predicate_again_refused after e h r = passes redefined_form again_form room (redefined_from p) b c after e at_redefine (passes again_form (predicate_heading_form optional_means) room put_predicate_again c c after e (leads_as again_form (predicate_heading_form optional_means) put_predicate_again room c (as_predicate_again c h)) r)

  pub attribute_again_found : (a : AttributeHeadingTree (Option MeaningTree)) (after : List MarkedToken) → heading_next c ≡ Some heading_words.Attr → Found (attribute_heading_form (stated means_form)) room c a after → Found redefined_form room b (heading_tree.RedefinedAttribute p a) after
  attribute_again_found a after h f = at_redefine.finds (attribute_again a) after ((leads_as again_form (attribute_heading_form (stated means_form)) put_attribute_again room c (as_attribute_again c h)).finds a after f)

  pub attribute_again_refused : (after : List MarkedToken) (e : Refusal) → heading_next c ≡ Some heading_words.Attr → Refuses (attribute_heading_form (stated means_form)) room c e after → Refuses redefined_form room b e after
  attribute_again_refused after e h r = passes redefined_form again_form room (redefined_from p) b c after e at_redefine (passes again_form (attribute_heading_form (stated means_form)) room put_attribute_again c c after e (leads_as again_form (attribute_heading_form (stated means_form)) put_attribute_again room c (as_attribute_again c h)) r)

  pub mode_again_found : (a : ModeHeadingTree (Option MeaningTree)) (after : List MarkedToken) → heading_next c ≡ Some heading_words.Mode → Found redefined_mode_form room c a after → Found redefined_form room b (heading_tree.RedefinedMode p a) after
  mode_again_found a after h f = at_redefine.finds (mode_again a) after ((leads_as again_form redefined_mode_form put_mode_again room c (as_mode_again c h)).finds a after f)

  pub mode_again_refused : (after : List MarkedToken) (e : Refusal) → heading_next c ≡ Some heading_words.Mode → Refuses redefined_mode_form room c e after → Refuses redefined_form room b e after
  mode_again_refused after e h r = passes redefined_form again_form room (redefined_from p) b c after e at_redefine (passes again_form redefined_mode_form room put_mode_again c c after e (leads_as again_form redefined_mode_form put_mode_again room c (as_mode_again c h)) r)
