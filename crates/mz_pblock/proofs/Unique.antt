-- Two conditions, properties, blocks of registrations, theorems or schemes that spell the same tokens are equal.
use Rattle.std.specs.Prelude.{codes}
use Rattle.std.proofs.Common.{◌≡◌, ℕ, zero, suc, ◌≤◌, Bool, true, false, List, [], ◌∷◌, ◌++◌, arith, length, refl, sym, ap, ◌∙◌}
use Rattle.mz_base.specs.declared.place.Place.{Place}
use Rattle.mz_base.specs.declared.token.MarkedToken.{MarkedToken}
use Rattle.mz_forms.specs.Form.{nested, then}
use Rattle.mz_forms.proofs.Compose.{head_of}
use Rattle.mz_forms.proofs.Leads.{apart_closed}
use Rattle.mz_forms.proofs.One.{One, OneAt, at_as, at_turn, one_as, one_class, one_from, one_nested, one_then, one_zero}
use Rattle.mz_tree.specs.declared.word.Word.{Word}
use Rattle.mz_tree_item.specs.declared.definition.ConditionOrPropertyTree.{ConditionOrPropertyTree}
use Rattle.mz_tree_item.specs.declared.definition.ConditionOrPropertyTree.TheVariants as either_tree
use Rattle.mz_tree_item.specs.declared.registration.RegistrationPartTree.{RegistrationPartTree}
use Rattle.mz_tree_item.specs.declared.registration.RegistrationPartTree.TheVariants as parts
use Rattle.mz_tree_item.specs.Rules.{IsConditionOrProperty, IsRegistrationPart}
use Rattle.mz_tree_item.specs.Spell.{spell_condition_or_property, spell_registration_part}
use Rattle.mz_pterm.specs.declared.sign.Sign.{Sign}
use Rattle.mz_pterm.specs.declared.sign.Sign.TheVariants as signs
use Rattle.mz_pterm.specs.Words.{fixed, is_fixed, is_named, name, named, word}
use Rattle.mz_pterm.proofs.Signs.{same_fixed, same_named}
use Rattle.mz_pformula.specs.Forms.{formula_form}
use Rattle.mz_pformula.proofs.UniqueFormulas.{formulas_one}
use Rattle.mz_pjustification.specs.declared.keyword.Keyword.TheVariants as keywords
use Rattle.mz_pjustification.specs.Words.{key, keyword}
use Rattle.mz_pproposition.specs.Forms.{proposition_form, propositions_form}
use Rattle.mz_pproposition.proofs.Unique.{keys, proposition_one, propositions_one}
use Rattle.mz_ppattern.specs.Words.{word_form, word_token}
use Rattle.mz_ppattern.proofs.OptionalSteps.{one_optional}
use Rattle.mz_ppattern.proofs.WordSteps.{word_same}
use Rattle.mz_ppart.specs.Classes.{begins_let}
use Rattle.mz_ppart.specs.Forms.{block_let_form, parameters_form}
use Rattle.mz_ppart.proofs.ListedSteps.{listed_one}
use Rattle.mz_ppart.proofs.NotationSteps.{let_own}
use Rattle.mz_ppart.proofs.Unique.{block_let_one, parameters_one}
use Rattle.mz_pproof.specs.Forms.{just_form}
use Rattle.mz_pproof.proofs.Unique.{just_one}
use Rattle.mz_pcluster.specs.Forms.{cluster_form}
use Rattle.mz_pcluster.proofs.Unique.{cluster_one}
use Rattle.mz_pblock.specs.Classes.{begins_condition, begins_either, begins_provided, begins_registration_part}
use Rattle.mz_pblock.specs.Forms.{condition_form, condition_word_form, conditions_form, either_form, goes_on_registration_parts, optional_provided, owed_form, property_form, property_word_form, provided_form, registered_form, registration_form, registration_part_form, registration_parts_form, scheme_form, scheme_head_form, scheme_rest_form, theorem_form}
use Rattle.mz_pblock.proofs.ConditionSteps as steps
use Rattle.mz_pblock.proofs.RegistrationSteps as registrations
use Rattle.mz_pblock.proofs.SchemeSteps as schemes
use Rattle.mz_pblock.proofs.WordSteps.{condition_word_one, property_word_one}

words : (n : ℕ) (s : Sign) → is_fixed s ≡ true → One n (word s)
words n s h = one_class n Place (fixed s) (same_fixed s h)

word_one : (n : ℕ) (w : List ℕ) → One n (word_form w)
word_one n w = one_class n Place (word_token w) (word_same w)

-- Conditions and properties.
behind_one : (n : ℕ) → One n steps.just_1
behind_one n = one_then n n just_form (λ _. keyword keywords.Semicolon) steps.joined_just.apart (just_one n) (λ a. keys n keywords.Semicolon refl) (λ a l isa h. omega (arith, h))

pub condition_one : (n : ℕ) → One n condition_form
condition_one n = one_as n condition_form steps.condition_1 steps.make_condition steps.only_condition (λ s is. refl) (λ s t is g. (steps.as_condition []).goes s t is g)
    (one_then n n condition_word_form (λ _. steps.just_1) steps.joined_condition.apart (condition_word_one n) (λ a. behind_one n) (λ a l isa h. omega (arith, h)))

pub property_one : (n : ℕ) → One n property_form
property_one n = one_as n property_form steps.property_1 steps.make_property steps.only_property (λ s is. refl) (λ s t is g. (steps.as_property []).goes s t is g)
    (one_then n n property_word_form (λ _. steps.just_1) steps.joined_property.apart (property_word_one n) (λ a. behind_one n) (λ a l isa h. omega (arith, h)))

conditions_one : (n : ℕ) → One n conditions_form
conditions_one n = listed_one condition_form begins_condition begins_condition steps.repeats_conditions condition_one n

either_at : (n : ℕ) (x : ConditionOrPropertyTree) (tok : MarkedToken) (m : List MarkedToken) → IsConditionOrProperty x → spell_condition_or_property x ≡ tok ∷ m → OneAt n either_form tok
either_at n (either_tree.Property a) tok m is e = at_as n either_form property_form steps.put_property tok (steps.as_either_property (tok ∷ []) (steps.property_token a tok _ m is.0 e)) (property_one n)
either_at n (either_tree.Condition a) tok m is e = at_as n either_form condition_form steps.put_condition tok (steps.as_either_condition (tok ∷ []) (steps.condition_token a tok _ m is.0 e)) (condition_one n)

either_one : (n : ℕ) → One n either_form
either_one n = one_from n either_form (λ a b isa isb ea eb. absurd (steps.either_filled a ea)) (λ a b tok m isa isb ea eb. absurd (steps.either_filled a ea)) (λ a tok m isa e. either_at n a tok m isa e)

filled_size : (w : List MarkedToken) → (w ≡ [] → ⊥) → 1 ≤ length w
filled_size [] h = absurd (h refl)
filled_size (t ∷ w) h = omega arith

pub owed_one : (n : ℕ) (due : Bool) → One n (owed_form due)
owed_one zero due = one_zero (owed_form due)
owed_one (suc n) due = one_from (suc n) (owed_form due) (λ a b isa isb ea eb. none a ea ∙ sym (none b eb)) (λ a b tok m isa isb ea eb. on b tok m isb eb) (at (λ d. owed_one n d))
  where
    none : (xs : List ConditionOrPropertyTree) → (owed_form due).spell xs ≡ [] → xs ≡ []
    none [] e = refl
    none (x ∷ xs) e = absurd (steps.filled_first x _ e)

    on : (xs : List ConditionOrPropertyTree) (tok : MarkedToken) (m : List MarkedToken) → (owed_form due).IsTree xs → (owed_form due).spell xs ≡ tok ∷ m → begins_either tok ≡ true
    on [] tok m is e = cc
    on (x ∷ xs) tok m is e = steps.either_first x _ tok m is.0.0 e

    at : ((d : Bool) → One n (owed_form d)) → (xs : List ConditionOrPropertyTree) (tok : MarkedToken) (m : List MarkedToken) → (owed_form due).IsTree xs → (owed_form due).spell xs ≡ tok ∷ m → OneAt (suc n) (owed_form due) tok
    at shorter [] tok m is e = cc
    at shorter (x ∷ xs) tok m is e = at_turn (suc n) (owed_form due) (steps.further due) (steps.put_first due) tok (steps.turn_further due tok (steps.either_first x _ tok m is.0.0 e))
        (one_then (suc n) n either_form (λ x. owed_form (steps.after due x)) (steps.further_apart due) (either_one (suc n)) (λ x. shorter (steps.after due x)) (λ a l isa h. omega (arith, h, filled_size (either_form.spell a) (λ e. steps.either_filled a e))))

-- Blocks of registrations.
registered_one : (n : ℕ) → One n registered_form
registered_one n = one_as n registered_form registrations.registered_1 registrations.make_registered registrations.only_registered (λ s is. refl) (λ s t is g. (registrations.as_registered []).goes s t is g)
    (one_then n n cluster_form (λ _. conditions_form) registrations.joined_registered.apart (cluster_one n) (λ a. conditions_one n) (λ a l isa h. omega (arith, h)))

part_at : (n : ℕ) (x : RegistrationPartTree) (tok : MarkedToken) (m : List MarkedToken) → IsRegistrationPart x → spell_registration_part x ≡ tok ∷ m → OneAt n registration_part_form tok
part_at n (parts.Let a) tok m is e = at_as n registration_part_form block_let_form registrations.put_let tok (registrations.as_let (tok ∷ []) (ap begins_let (sym (head_of _ _ _ _ e)) ∙ let_own a.let_)) (block_let_one n)
part_at n (parts.Cluster a cs) tok m is e = at_as n registration_part_form registered_form registrations.put_registered tok (registrations.as_cluster_part (tok ∷ []) (registrations.cluster_token a cs tok m is.0 e)) (registered_one n)

part_one : (n : ℕ) → One n registration_part_form
part_one n = one_from n registration_part_form (λ a b isa isb ea eb. absurd (registrations.part_filled a isa ea)) (λ a b tok m isa isb ea eb. absurd (registrations.part_filled a isa ea)) (λ a tok m isa e. part_at n a tok m isa e)

pub registration_one : (n : ℕ) → One n registration_form
registration_one n = one_as n registration_form registrations.registration_1 registrations.make_registration registrations.only_registration (λ s is. refl) (λ s t is g. (registrations.as_registration []).goes s t is g)
    (one_then n n (word_form (codes "registration")) (λ _. registrations.registration_2) registrations.joined_registration_1.apart (word_one n (codes "registration"))
    (λ a. one_then n n registration_parts_form (λ _. registrations.registration_3) registrations.joined_registration_2.apart (listed_one registration_part_form begins_registration_part goes_on_registration_parts registrations.repeats_parts part_one n)
    (λ a. one_then n n (keyword keywords.End) (λ _. registrations.registration_4) registrations.joined_registration_3.apart (keys n keywords.End refl) (λ a. keys n keywords.Semicolon refl) (λ a l isa h. omega (arith, h))) (λ a l isa h. omega (arith, h))) (λ a l isa h. omega (arith, h)))

-- Theorems and schemes.
pub theorem_one : (n : ℕ) → One n theorem_form
theorem_one n = one_as n theorem_form schemes.theorem_1 schemes.make_theorem schemes.only_theorem (λ s is. schemes.theorem_spells s) (λ s t is g. (schemes.as_theorem []).goes s t is g)
    (one_then n n (word_form (codes "theorem")) (λ _. schemes.theorem_2) schemes.joined_theorem_1.apart (word_one n (codes "theorem"))
    (λ a. one_then n n proposition_form (λ _. steps.just_1) schemes.joined_theorem_2.apart (proposition_one n) (λ a. behind_one n) (λ a l isa h. omega (arith, h))) (λ a l isa h. omega (arith, h)))

provided_one : (n : ℕ) → One n provided_form
provided_one n = one_as n provided_form schemes.provided_1 schemes.make_provided schemes.only_provided (λ s is. refl) (λ s t is g. (schemes.as_provided []).goes s t is g)
    (one_then n n (word_form (codes "provided")) (λ _. propositions_form) schemes.joined_provided.apart (word_one n (codes "provided")) (λ a. propositions_one n) (λ a l isa h. omega (arith, h)))

optional_provided_one : (n : ℕ) → One n optional_provided
optional_provided_one n = one_optional provided_form begins_provided schemes.starts_provided n (provided_one n)

scheme_head_one : (n : ℕ) → One n scheme_head_form
scheme_head_one n = one_as n scheme_head_form schemes.scheme_head_1 schemes.make_scheme_head schemes.only_scheme_head (λ s is. refl) (λ s t is g. (schemes.as_scheme_head []).goes s t is g)
    (one_then n n (word_form (codes "scheme")) (λ _. schemes.scheme_head_2) schemes.joined_scheme_head_1.apart (word_one n (codes "scheme"))
    (λ a. one_then n n (name signs.Identifier) (λ _. schemes.scheme_head_3) schemes.joined_scheme_head_2.apart (one_class n Word (named signs.Identifier) (same_named signs.Identifier refl))
    (λ a. one_then n n (nested (word signs.OpenBrace)) (λ _. schemes.scheme_head_4) schemes.joined_scheme_head_3.apart (one_nested n (word signs.OpenBrace) (words n signs.OpenBrace refl))
    (λ a. one_then n n (nested parameters_form) (λ _. schemes.scheme_head_5) schemes.joined_scheme_head_4.apart (one_nested n parameters_form (parameters_one n)) (λ a. words n signs.CloseBrace refl) (λ a l isa h. omega (arith, h))) (λ a l isa h. omega (arith, h))) (λ a l isa h. omega (arith, h))) (λ a l isa h. omega (arith, h)))

scheme_rest_one : (n : ℕ) → One n scheme_rest_form
scheme_rest_one n = one_as n scheme_rest_form schemes.scheme_rest_1 schemes.make_scheme_rest schemes.only_scheme_rest (λ s is. refl) (λ s t is g. (schemes.as_scheme_rest []).goes s t is g)
    (one_then n n (keyword keywords.Colon) (λ _. schemes.scheme_rest_2) schemes.joined_scheme_rest_1.apart (keys n keywords.Colon refl)
    (λ a. one_then n n (formula_form false) (λ _. schemes.scheme_rest_3) schemes.joined_scheme_rest_2.apart (formulas_one false n).formulas
    (λ a. one_then n n optional_provided (λ _. steps.just_1) schemes.joined_scheme_rest_3.apart (optional_provided_one n) (λ a. behind_one n) (λ a l isa h. omega (arith, h))) (λ a l isa h. omega (arith, h))) (λ a l isa h. omega (arith, h)))

pub scheme_one : (n : ℕ) → One n scheme_form
scheme_one n = one_as n scheme_form schemes.scheme_1 schemes.make_scheme schemes.only_scheme (λ s is. schemes.scheme_spells s) (λ s t is g. (schemes.as_scheme []).goes s t is g)
    (one_then n n scheme_head_form (λ _. scheme_rest_form) schemes.joined_scheme.apart (scheme_head_one n) (λ a. scheme_rest_one n) (λ a l isa h. omega (arith, h)))
