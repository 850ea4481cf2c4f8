-- The words of directives, conditions, properties and notations.
use Rattle.std.specs.Prelude.{ℕ, List, codes}
use Rattle.mz_tree_part.specs.declared.words.DirectiveWord.{DirectiveWord}
use Rattle.mz_tree_part.specs.declared.words.DirectiveWord.TheVariants as directive_words
use Rattle.mz_tree_part.specs.declared.words.ConditionWord.{ConditionWord}
use Rattle.mz_tree_part.specs.declared.words.ConditionWord.TheVariants as condition_words
use Rattle.mz_tree_part.specs.declared.words.PropertyWord.{PropertyWord}
use Rattle.mz_tree_part.specs.declared.words.PropertyWord.TheVariants as property_words
use Rattle.mz_tree_part.specs.declared.words.NotationWord.{NotationWord}
use Rattle.mz_tree_part.specs.declared.words.NotationWord.TheVariants as notation_words

abbrev pub directive_word : DirectiveWord → List ℕ
directive_word directive_words.Vocabularies = codes "vocabularies"
directive_word directive_words.Notations = codes "notations"
directive_word directive_words.Constructors = codes "constructors"
directive_word directive_words.Registrations = codes "registrations"
directive_word directive_words.Definitions = codes "definitions"
directive_word directive_words.Equalities = codes "equalities"
directive_word directive_words.Expansions = codes "expansions"
directive_word directive_words.Theorems = codes "theorems"
directive_word directive_words.Schemes = codes "schemes"
directive_word directive_words.Requirements = codes "requirements"

abbrev pub condition_word : ConditionWord → List ℕ
condition_word condition_words.Existence = codes "existence"
condition_word condition_words.Uniqueness = codes "uniqueness"
condition_word condition_words.Coherence = codes "coherence"
condition_word condition_words.Compatibility = codes "compatibility"
condition_word condition_words.Consistency = codes "consistency"
condition_word condition_words.Correctness = codes "correctness"
condition_word condition_words.Reducibility = codes "reducibility"

abbrev pub property_word : PropertyWord → List ℕ
property_word property_words.Reflexivity = codes "reflexivity"
property_word property_words.Irreflexivity = codes "irreflexivity"
property_word property_words.Symmetry = codes "symmetry"
property_word property_words.Asymmetry = codes "asymmetry"
property_word property_words.Connectedness = codes "connectedness"
property_word property_words.Commutativity = codes "commutativity"
property_word property_words.Idempotence = codes "idempotence"
property_word property_words.Involutiveness = codes "involutiveness"
property_word property_words.Projectivity = codes "projectivity"
property_word property_words.Sethood = codes "sethood"

abbrev pub notation_word : NotationWord → List ℕ
notation_word notation_words.Synonym = codes "synonym"
notation_word notation_words.Antonym = codes "antonym"
