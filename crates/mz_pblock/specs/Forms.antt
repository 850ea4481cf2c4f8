-- The forms of conditions and properties, of blocks of registrations, of theorems and of schemes.
use Rattle.std.specs.Prelude.{◌≡◌, ℕ, suc, Bool, true, false, ◌||◌, List, [], ◌∷◌, ◌++◌, map, length, refl, codes, Option}
use Rattle.std.specs.List.{flat_map}
use Rattle.std.proofs.Common.{ap}
use Rattle.mz_base.specs.declared.token.MarkedToken.{MarkedToken}
use Rattle.mz_forms.specs.Form.{Form, each_append, then}
use Rattle.mz_tree.specs.Levels.{each_flat, each_formula, each_maybe, levels_formula, nested_each}
use Rattle.mz_tree.specs.Lists.{AreDivided, each_separated, levels_separated, spell_separated}
use Rattle.mz_tree.specs.Rules.{Every, IfAny, IsFormula}
use Rattle.mz_tree.specs.Spell.{spell_formula}
use Rattle.mz_tree.specs.Spelled.{maybe}
use Rattle.mz_tree_item.specs.declared.definition.ConditionTree.{ConditionTree}
use Rattle.mz_tree_item.specs.declared.definition.PropertyTree.{PropertyTree}
use Rattle.mz_tree_item.specs.declared.definition.ConditionOrPropertyTree.{ConditionOrPropertyTree}
use Rattle.mz_tree_item.specs.declared.definition.ConditionOrPropertyTree.TheVariants as either_tree
use Rattle.mz_tree_item.specs.declared.registration.RegistrationPartTree.{RegistrationPartTree}
use Rattle.mz_tree_item.specs.declared.registration.RegistrationPartTree.TheVariants as parts
use Rattle.mz_tree_item.specs.declared.registration.RegistrationTree.{RegistrationTree}
use Rattle.mz_tree_item.specs.declared.schemes.ProvidedTree.{ProvidedTree}
use Rattle.mz_tree_item.specs.declared.schemes.SchemeTree.{SchemeTree}
use Rattle.mz_tree_item.specs.declared.schemes.TheoremTree.{TheoremTree}
use Rattle.mz_tree_item.specs.EachLevel as each
use Rattle.mz_tree_item.specs.Levels as levels
use Rattle.mz_tree_item.specs.Rules as rules
use Rattle.mz_tree_item.specs.Spell as spell
use Rattle.mz_tree_part.specs.EachLevel.{each_parameter}
use Rattle.mz_tree_part.specs.Keywords.{condition_word, property_word}
use Rattle.mz_tree_part.specs.Levels.{levels_parameter}
use Rattle.mz_tree_part.specs.Rules.{IsParameter, is_condition_yet, is_property_yet, parameter_ends_in_terms}
use Rattle.mz_tree_part.specs.Spell.{spell_parameter}
use Rattle.mz_tree_proof.specs.EachLevelReasoning.{each_just}
use Rattle.mz_tree_proof.specs.LevelsReasoning.{levels_just}
use Rattle.mz_tree_proof.specs.RulesReasoning.{IsJust}
use Rattle.mz_tree_proof.specs.SpellReasoning.{spell_just}
use Rattle.mz_pterm.specs.declared.sign.Sign.TheVariants as signs
use Rattle.mz_pterm.specs.Words.{fixed, named}
use Rattle.mz_pjustification.specs.declared.keyword.Keyword.TheVariants as keywords
use Rattle.mz_pjustification.specs.Words.{key, tokens_of}
use Rattle.mz_pproposition.specs.Forms.{goes_on_propositions}
use Rattle.mz_ppattern.specs.Optional.{listed, optional}
use Rattle.mz_ppattern.specs.Words.{word_token}
use Rattle.mz_ppart.specs.WordLists.{chosen_form}
use Rattle.mz_pblock.specs.declared.schemes.SchemeHead.{SchemeHead}
use Rattle.mz_pblock.specs.declared.schemes.SchemeRest.{SchemeRest}
use Rattle.mz_pblock.specs.Classes.{begins_condition, begins_either, begins_provided, begins_registration_part}

-- Conditions and properties.
abbrev pub condition_word_form : Form MarkedToken
condition_word_form = chosen_form condition_word is_condition_yet

abbrev pub property_word_form : Form MarkedToken
property_word_form = chosen_form property_word is_property_yet

abbrev pub condition_form : Form MarkedToken
condition_form = record { Tree = ConditionTree; spell = spell.spell_condition; levels = levels.levels_condition; each = each.each_condition; IsTree = rules.IsCondition; goes = λ _ _. false }

abbrev pub property_form : Form MarkedToken
property_form = record { Tree = PropertyTree; spell = spell.spell_property; levels = levels.levels_property; each = each.each_property; IsTree = rules.IsProperty; goes = λ _ _. false }

abbrev pub conditions_form : Form MarkedToken
conditions_form = listed condition_form begins_condition

abbrev pub either_form : Form MarkedToken
either_form = record { Tree = ConditionOrPropertyTree; spell = spell.spell_condition_or_property; levels = levels.levels_condition_or_property; each = each.each_condition_or_property; IsTree = rules.IsConditionOrProperty; goes = λ _ _. false }

abbrev pub is_property : ConditionOrPropertyTree → Bool
is_property (either_tree.Condition a) = false
is_property (either_tree.Property a) = true

-- a property is among them, where one is due
abbrev pub Pays : Bool → List ConditionOrPropertyTree → Type 0
Pays true cs = rules.has_property cs ≡ true
Pays false cs = Unit {0}

-- Conditions and properties behind a heading.
abbrev pub owed_form : Bool → Form MarkedToken
owed_form due = record {
  Tree = List ConditionOrPropertyTree;
  spell = flat_map spell.spell_condition_or_property;
  levels = flat_map levels.levels_condition_or_property;
  each = each_flat levels.levels_condition_or_property spell.spell_condition_or_property each.each_condition_or_property;
  IsTree = λ cs. Every rules.IsConditionOrProperty cs × Pays due cs;
  goes = λ _ t. begins_either t;
}

-- Blocks of registrations.
abbrev pub IsRegistered : RegistrationPartTree → Type 0
IsRegistered (parts.Let a) = ⊥
IsRegistered (parts.Cluster a cs) = rules.IsRegistrationPart (parts.Cluster a cs)

-- a cluster with its conditions
abbrev pub registered_form : Form MarkedToken
registered_form = record { Tree = RegistrationPartTree; spell = spell.spell_registration_part; levels = levels.levels_registration_part; each = each.each_registration_part; IsTree = IsRegistered; goes = λ _ t. begins_condition t }

abbrev pub registration_part_form : Form MarkedToken
registration_part_form = record { Tree = RegistrationPartTree; spell = spell.spell_registration_part; levels = levels.levels_registration_part; each = each.each_registration_part; IsTree = rules.IsRegistrationPart; goes = λ _ t. begins_condition t }

abbrev pub goes_on_registration_parts : MarkedToken → Bool
goes_on_registration_parts t = begins_condition t || begins_registration_part t

abbrev pub registration_parts_form : Form MarkedToken
registration_parts_form = listed registration_part_form goes_on_registration_parts

abbrev pub registration_form : Form MarkedToken
registration_form = record { Tree = RegistrationTree; spell = spell.spell_registration; levels = levels.levels_registration; each = each.each_registration; IsTree = rules.IsRegistration; goes = λ _ _. false }

-- Theorems and schemes.
abbrev pub theorem_form : Form MarkedToken
theorem_form = record { Tree = TheoremTree; spell = spell.spell_theorem; levels = levels.levels_theorem; each = each.each_theorem; IsTree = rules.IsTheorem; goes = λ _ _. false }

abbrev pub provided_form : Form MarkedToken
provided_form = record { Tree = ProvidedTree; spell = spell.spell_provided; levels = levels.levels_provided; each = each.each_provided; IsTree = rules.IsProvided; goes = λ _ t. tokens_of goes_on_propositions t }

abbrev pub optional_provided : Form MarkedToken
optional_provided = optional provided_form begins_provided

-- a scheme up to its parameters
abbrev pub spell_scheme_head : SchemeHead → List MarkedToken
spell_scheme_head a = word_token (codes "scheme") a.scheme ∷ (named signs.Identifier a.name ∷ (fixed signs.OpenBrace a.left ∷ (spell_separated spell_parameter a.parameters ++ fixed signs.CloseBrace a.right ∷ [])))

abbrev pub levels_scheme_head : SchemeHead → List ℕ
levels_scheme_head a = 0 ∷ (0 ∷ (1 ∷ (map suc (levels_separated levels_parameter a.parameters) ++ 0 ∷ [])))

pub each_scheme_head : (a : SchemeHead) → length (levels_scheme_head a) ≡ length (spell_scheme_head a)
each_scheme_head a = ap suc (ap suc (ap suc (each_append (map suc (levels_separated levels_parameter a.parameters)) (0 ∷ []) (spell_separated spell_parameter a.parameters) (fixed signs.CloseBrace a.right ∷ []) (nested_each (levels_separated levels_parameter a.parameters) (spell_separated spell_parameter a.parameters) (each_separated levels_parameter spell_parameter each_parameter a.parameters)) refl)))

abbrev pub scheme_head_form : Form MarkedToken
scheme_head_form = record { Tree = SchemeHead; spell = spell_scheme_head; levels = levels_scheme_head; each = each_scheme_head; IsTree = λ a. AreDivided IsParameter parameter_ends_in_terms a.parameters; goes = λ _ _. false }

-- what stands behind its parameters
abbrev pub spell_scheme_rest : SchemeRest → List MarkedToken
spell_scheme_rest a = key keywords.Colon a.colon ∷ (spell_formula a.formula ++ (maybe spell.spell_provided a.provided ++ (spell_just a.just ++ key keywords.Semicolon a.semicolon ∷ [])))

abbrev pub levels_scheme_rest : SchemeRest → List ℕ
levels_scheme_rest a = 0 ∷ (levels_formula a.formula ++ (maybe levels.levels_provided a.provided ++ (levels_just a.just ++ 0 ∷ [])))

pub each_scheme_rest : (a : SchemeRest) → length (levels_scheme_rest a) ≡ length (spell_scheme_rest a)
each_scheme_rest a = ap suc (each_append (levels_formula a.formula) (maybe levels.levels_provided a.provided ++ (levels_just a.just ++ 0 ∷ [])) (spell_formula a.formula) (maybe spell.spell_provided a.provided ++ (spell_just a.just ++ key keywords.Semicolon a.semicolon ∷ [])) (each_formula a.formula)
    (each_append (maybe levels.levels_provided a.provided) (levels_just a.just ++ 0 ∷ []) (maybe spell.spell_provided a.provided) (spell_just a.just ++ key keywords.Semicolon a.semicolon ∷ []) (each_maybe levels.levels_provided spell.spell_provided each.each_provided a.provided)
    (each_append (levels_just a.just) (0 ∷ []) (spell_just a.just) (key keywords.Semicolon a.semicolon ∷ []) (each_just a.just) refl)))

abbrev pub scheme_rest_form : Form MarkedToken
scheme_rest_form = record { Tree = SchemeRest; spell = spell_scheme_rest; levels = levels_scheme_rest; each = each_scheme_rest; IsTree = λ a. IsFormula false a.formula × IfAny rules.IsProvided a.provided × IsJust a.just; goes = λ _ _. false }

abbrev pub scheme_of : SchemeHead → SchemeRest → SchemeTree
scheme_of a b = record { scheme = a.scheme; name = a.name; left = a.left; parameters = a.parameters; right = a.right; colon = b.colon; formula = b.formula; provided = b.provided; just = b.just; semicolon = b.semicolon }

abbrev pub scheme_form : Form MarkedToken
scheme_form = record { Tree = SchemeTree; spell = spell.spell_scheme; levels = levels.levels_scheme; each = each.each_scheme; IsTree = rules.IsScheme; goes = λ _ _. false }
