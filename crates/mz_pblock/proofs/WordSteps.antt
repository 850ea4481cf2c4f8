-- The readings of the words of conditions and properties.
use Rattle.std.proofs.Common.{◌≡◌, ℕ, Bool, true, false, ◌||◌, inl, inr, List, [], ◌∷◌, refl, sym, ap, ◌∙◌, is_some, Option, Some, None}
use Rattle.mz_base.specs.declared.place.Place.{Place}
use Rattle.mz_base.specs.declared.token.MarkedToken.{MarkedToken}
use Rattle.mz_forms.specs.Form.{Found, Fails}
use Rattle.mz_forms.proofs.One.{One}
use Rattle.mz_tree_part.specs.declared.words.ConditionWord.{ConditionWord}
use Rattle.mz_tree_part.specs.declared.words.ConditionWord.TheVariants as condition_words
use Rattle.mz_tree_part.specs.declared.words.PropertyWord.{PropertyWord}
use Rattle.mz_tree_part.specs.declared.words.PropertyWord.TheVariants as property_words
use Rattle.mz_tree_part.specs.Keywords.{condition_word, property_word}
use Rattle.mz_tree_part.specs.Rules.{is_condition_yet, is_property_yet}
use Rattle.mz_ppattern.specs.Words.{is_word, word_token}
use Rattle.mz_ppart.specs.WordLists.{chosen_token, first_of}
use Rattle.mz_ppart.proofs.ChosenWords.{All, In, chosen_found, chosen_left_out, chosen_one, chosen_refused, first_hit}
use Rattle.mz_pblock.specs.Classes.{begins_condition, begins_property, conditions, properties}
use Rattle.mz_pblock.specs.Forms.{condition_word_form, property_word_form}

-- Conditions.
all_conditions : All is_condition_yet conditions
all_conditions = (refl, (refl, (refl, (refl, (refl, (refl, tt))))))

in_conditions : (w : ConditionWord) → is_condition_yet w ≡ true → In w conditions
in_conditions condition_words.Existence h = inl refl
in_conditions condition_words.Uniqueness h = inr (inl refl)
in_conditions condition_words.Coherence h = inr (inr (inl refl))
in_conditions condition_words.Compatibility h = inr (inr (inr (inl refl)))
in_conditions condition_words.Consistency h = inr (inr (inr (inr (inl refl))))
in_conditions condition_words.Correctness h = inr (inr (inr (inr (inr (inl refl)))))
in_conditions condition_words.Reducibility h = cc

pub own_condition : (w : ConditionWord) (p : Place) → is_condition_yet w ≡ true → first_of condition_word conditions (word_token (condition_word w) p) ≡ Some w
own_condition condition_words.Existence p h = refl
own_condition condition_words.Uniqueness p h = refl
own_condition condition_words.Coherence p h = refl
own_condition condition_words.Compatibility p h = refl
own_condition condition_words.Consistency p h = refl
own_condition condition_words.Correctness p h = refl
own_condition condition_words.Reducibility p h = cc

pub condition_hit : (t : MarkedToken) (w : ConditionWord) → first_of condition_word conditions t ≡ Some w → (is_word (condition_word w) t ≡ true) × (is_condition_yet w ≡ true)
condition_hit t w e = first_hit condition_word is_condition_yet conditions t w all_conditions e

pub condition_found : (room : ℕ) (t : MarkedToken) (b rest : List MarkedToken) (w : ConditionWord) → first_of condition_word conditions t ≡ Some w → b ≡ t ∷ rest → Found condition_word_form room b (w, t.token.place) rest
condition_found room t b rest w h e = chosen_found condition_word is_condition_yet conditions all_conditions in_conditions own_condition condition_words.Existence refl room t b rest w h e

pub condition_refused : (room : ℕ) (t : MarkedToken) (b rest : List MarkedToken) → first_of condition_word conditions t ≡ None → b ≡ t ∷ rest → Fails condition_word_form room b b
condition_refused room t b rest h e = chosen_refused condition_word is_condition_yet conditions all_conditions in_conditions own_condition condition_words.Existence refl room t b rest h e

pub condition_left_out : (room : ℕ) (b : List MarkedToken) → b ≡ [] → Fails condition_word_form room b b
condition_left_out room b e = chosen_left_out condition_word is_condition_yet conditions all_conditions in_conditions own_condition condition_words.Existence refl room b e

pub condition_word_one : (n : ℕ) → One n condition_word_form
condition_word_one n = chosen_one condition_word is_condition_yet conditions all_conditions in_conditions own_condition condition_words.Existence refl n

-- Properties.
all_properties : All is_property_yet properties
all_properties = (refl, (refl, (refl, (refl, (refl, (refl, (refl, (refl, (refl, tt)))))))))

in_properties : (w : PropertyWord) → is_property_yet w ≡ true → In w properties
in_properties property_words.Reflexivity h = inl refl
in_properties property_words.Irreflexivity h = inr (inl refl)
in_properties property_words.Symmetry h = inr (inr (inl refl))
in_properties property_words.Asymmetry h = inr (inr (inr (inl refl)))
in_properties property_words.Connectedness h = inr (inr (inr (inr (inl refl))))
in_properties property_words.Commutativity h = inr (inr (inr (inr (inr (inl refl)))))
in_properties property_words.Idempotence h = inr (inr (inr (inr (inr (inr (inl refl))))))
in_properties property_words.Involutiveness h = inr (inr (inr (inr (inr (inr (inr (inl refl)))))))
in_properties property_words.Projectivity h = inr (inr (inr (inr (inr (inr (inr (inr (inl refl))))))))
in_properties property_words.Sethood h = cc

pub own_property : (w : PropertyWord) (p : Place) → is_property_yet w ≡ true → first_of property_word properties (word_token (property_word w) p) ≡ Some w
own_property property_words.Reflexivity p h = refl
own_property property_words.Irreflexivity p h = refl
own_property property_words.Symmetry p h = refl
own_property property_words.Asymmetry p h = refl
own_property property_words.Connectedness p h = refl
own_property property_words.Commutativity p h = refl
own_property property_words.Idempotence p h = refl
own_property property_words.Involutiveness p h = refl
own_property property_words.Projectivity p h = refl
own_property property_words.Sethood p h = cc

pub property_hit : (t : MarkedToken) (w : PropertyWord) → first_of property_word properties t ≡ Some w → (is_word (property_word w) t ≡ true) × (is_property_yet w ≡ true)
property_hit t w e = first_hit property_word is_property_yet properties t w all_properties e

pub property_found : (room : ℕ) (t : MarkedToken) (b rest : List MarkedToken) (w : PropertyWord) → first_of property_word properties t ≡ Some w → b ≡ t ∷ rest → Found property_word_form room b (w, t.token.place) rest
property_found room t b rest w h e = chosen_found property_word is_property_yet properties all_properties in_properties own_property property_words.Reflexivity refl room t b rest w h e

pub property_refused : (room : ℕ) (t : MarkedToken) (b rest : List MarkedToken) → first_of property_word properties t ≡ None → b ≡ t ∷ rest → Fails property_word_form room b b
property_refused room t b rest h e = chosen_refused property_word is_property_yet properties all_properties in_properties own_property property_words.Reflexivity refl room t b rest h e

pub property_left_out : (room : ℕ) (b : List MarkedToken) → b ≡ [] → Fails property_word_form room b b
property_left_out room b e = chosen_left_out property_word is_property_yet properties all_properties in_properties own_property property_words.Reflexivity refl room b e

pub property_word_one : (n : ℕ) → One n property_word_form
property_word_one n = chosen_one property_word is_property_yet properties all_properties in_properties own_property property_words.Reflexivity refl n

-- No word of a condition is one of a property.
pub condition_no_property : (w : ConditionWord) (p : Place) → is_condition_yet w ≡ true → begins_property (word_token (condition_word w) p) ≡ false
condition_no_property condition_words.Existence p h = refl
condition_no_property condition_words.Uniqueness p h = refl
condition_no_property condition_words.Coherence p h = refl
condition_no_property condition_words.Compatibility p h = refl
condition_no_property condition_words.Consistency p h = refl
condition_no_property condition_words.Correctness p h = refl
condition_no_property condition_words.Reducibility p h = cc

pub begins_own_condition : (w : ConditionWord) (p : Place) → is_condition_yet w ≡ true → begins_condition (word_token (condition_word w) p) ≡ true
begins_own_condition w p h = ap is_some (own_condition w p h)

pub begins_own_property : (w : PropertyWord) (p : Place) → is_property_yet w ≡ true → begins_property (word_token (property_word w) p) ≡ true
begins_own_property w p h = ap is_some (own_property w p h)

-- a word that is none of them begins neither
pub some_of : {W : Type 0} (o : Option W) → is_some o ≡ true → (w : W) × (o ≡ Some w)
some_of None h = cc
some_of (Some w) h = (w, refl)
