-- The words of conditions and properties, and what parts of blocks begin with.
use Rattle.std.specs.Prelude.{Bool, ◌||◌, List, [], ◌∷◌, is_some, codes}
use Rattle.mz_base.specs.declared.token.MarkedToken.{MarkedToken}
use Rattle.mz_tree_part.specs.declared.words.ConditionWord.{ConditionWord}
use Rattle.mz_tree_part.specs.declared.words.ConditionWord.TheVariants as condition_words
use Rattle.mz_tree_part.specs.declared.words.PropertyWord.{PropertyWord}
use Rattle.mz_tree_part.specs.declared.words.PropertyWord.TheVariants as property_words
use Rattle.mz_tree_part.specs.Keywords.{condition_word, property_word}
use Rattle.mz_ppattern.specs.Words.{is_word}
use Rattle.mz_ppart.specs.Classes.{begins_let}
use Rattle.mz_ppart.specs.WordLists.{first_of}

-- the words of conditions and of properties, of the language so far
abbrev pub conditions : List ConditionWord
conditions = condition_words.Existence ∷ condition_words.Uniqueness ∷ condition_words.Coherence ∷ condition_words.Compatibility ∷ condition_words.Consistency ∷ condition_words.Correctness ∷ []

abbrev pub properties : List PropertyWord
properties = property_words.Reflexivity ∷ property_words.Irreflexivity ∷ property_words.Symmetry ∷ property_words.Asymmetry ∷ property_words.Connectedness ∷ property_words.Commutativity ∷ property_words.Idempotence ∷ property_words.Involutiveness ∷ property_words.Projectivity ∷ []

abbrev pub begins_condition : MarkedToken → Bool
begins_condition t = is_some (first_of condition_word conditions t)

abbrev pub begins_property : MarkedToken → Bool
begins_property t = is_some (first_of property_word properties t)

abbrev pub begins_either : MarkedToken → Bool
begins_either t = begins_property t || begins_condition t

abbrev pub begins_registration_part : MarkedToken → Bool
begins_registration_part t = is_word (codes "cluster") t || begins_let t

abbrev pub begins_provided : MarkedToken → Bool
begins_provided t = is_word (codes "provided") t
