-- The forms of names with commas between them, of loci and of patterns.
use Rattle.std.specs.Prelude.{◌≡◌, ℕ, Bool, true, false, List, [], ◌∷◌, ◌++◌, length, refl}
use Rattle.mz_base.specs.declared.place.Place.{Place}
use Rattle.mz_base.specs.declared.token.MarkedToken.{MarkedToken}
use Rattle.mz_forms.specs.Form.{Form, then, nested, one_of}
use Rattle.mz_tree.specs.declared.word.Word.{Word}
use Rattle.mz_tree.specs.declared.lists.Separated.{Separated}
use Rattle.mz_tree.specs.Spelled.{functor}
use Rattle.mz_tree_heading.specs.declared.patterns.IdentifierTree.{IdentifierTree}
use Rattle.mz_tree_heading.specs.declared.structure.SelectorTree.{SelectorTree}
use Rattle.mz_tree_heading.specs.declared.patterns.LociTree.{LociTree}
use Rattle.mz_tree_heading.specs.declared.patterns.ModeLociTree.{ModeLociTree}
use Rattle.mz_tree_heading.specs.declared.patterns.SymbolPatternTree.{SymbolPatternTree}
use Rattle.mz_tree_heading.specs.declared.patterns.FunctorPatternTree.{FunctorPatternTree}
use Rattle.mz_tree_heading.specs.declared.patterns.PredicatePatternTree.{PredicatePatternTree}
use Rattle.mz_tree_heading.specs.declared.patterns.AttributePatternTree.{AttributePatternTree}
use Rattle.mz_tree_heading.specs.declared.patterns.ModePatternTree.{ModePatternTree}
use Rattle.mz_tree_heading.specs.declared.patterns.PatternTree.{PatternTree}
use Rattle.mz_tree_heading.specs.Spell as spell
use Rattle.mz_tree_heading.specs.Levels as levels
use Rattle.mz_tree_heading.specs.EachLevel as each
use Rattle.mz_pterm.specs.declared.sign.Sign.{Sign}
use Rattle.mz_pterm.specs.declared.sign.Sign.TheVariants as signs
use Rattle.mz_pterm.specs.Sign.{sign_of}
use Rattle.mz_pterm.specs.Words.{named, name, word}
use Rattle.mz_pstep.specs.Forms.{divided}
use Rattle.mz_ppattern.specs.Optional.{optional}
use Rattle.mz_ppattern.specs.Classes.{begins_loci, begins_identifiers, begins_mode_loci, goes_on_names, goes_on_pattern}

-- An identifier, and a selector.
abbrev pub identifier_token : IdentifierTree → MarkedToken
identifier_token a = named signs.Identifier a.name

abbrev pub identifier_form : Form MarkedToken
identifier_form = one_of IdentifierTree identifier_token

abbrev pub selector_token : SelectorTree → MarkedToken
selector_token a = named signs.Selector a.symbol

abbrev pub selector_form : Form MarkedToken
selector_form = one_of SelectorTree selector_token

-- no name ends in a list of terms, so that commas of either mark stand between names
abbrev pub never_ends : {X : Type 0} → X → Bool
never_ends x = false

abbrev pub identifiers_form : Form MarkedToken
identifiers_form = divided identifier_form never_ends goes_on_names

abbrev pub selectors_form : Form MarkedToken
selectors_form = divided selector_form never_ends goes_on_names

-- A functor symbol with its priority.
abbrev pub functor_token : (Word × ℕ) → MarkedToken
functor_token p = functor p.0 p.1

abbrev pub functor_form : Form MarkedToken
functor_form = one_of (Word × ℕ) functor_token

-- Identifiers in these brackets, and in brackets of an environment.
abbrev pub bracketed_form : Sign → Sign → Form MarkedToken
bracketed_form opening closing = then (nested (word opening)) (λ _. then (nested identifiers_form) (λ _. word closing))

abbrev pub enclosed_form : Form MarkedToken
enclosed_form = then (nested (name signs.LeftBracket)) (λ _. then (nested identifiers_form) (λ _. name signs.RightBracket))

abbrev pub Bracketed : Type 0
Bracketed = Place × (Separated IdentifierTree × Place)

abbrev pub bracketed_from : (Place × Separated IdentifierTree × Place) → Bracketed
bracketed_from p = (p.0, (p.1, p.2))

abbrev pub enclosed_from : (Word × Separated IdentifierTree × Word) → Word × (Separated IdentifierTree × Word)
enclosed_from p = (p.0, (p.1, p.2))

-- Loci.
abbrev pub loci_form : Form MarkedToken
loci_form = record { Tree = LociTree; spell = spell.spell_loci; levels = levels.levels_loci; each = each.each_loci; IsTree = λ _. Unit {0}; goes = λ _ _. false }

abbrev pub optional_loci : Form MarkedToken
optional_loci = optional loci_form begins_loci

abbrev pub optional_identifiers : Form MarkedToken
optional_identifiers = optional identifiers_form begins_identifiers

abbrev pub mode_loci_form : Form MarkedToken
mode_loci_form = record { Tree = ModeLociTree; spell = spell.spell_mode_loci; levels = levels.levels_mode_loci; each = each.each_mode_loci; IsTree = λ _. Unit {0}; goes = λ _ t. goes_on_names (sign_of t) }

abbrev pub optional_mode_loci : Form MarkedToken
optional_mode_loci = optional mode_loci_form begins_mode_loci

-- Patterns.
abbrev pub symbol_pattern_form : Form MarkedToken
symbol_pattern_form = record { Tree = SymbolPatternTree; spell = spell.spell_symbol_pattern; levels = levels.levels_symbol_pattern; each = each.each_symbol_pattern; IsTree = λ _. Unit {0}; goes = λ _ t. goes_on_pattern (sign_of t) }

abbrev pub functor_pattern_form : Form MarkedToken
functor_pattern_form = record { Tree = FunctorPatternTree; spell = spell.spell_functor_pattern; levels = levels.levels_functor_pattern; each = each.each_functor_pattern; IsTree = λ _. Unit {0}; goes = λ _ t. goes_on_pattern (sign_of t) }

abbrev pub predicate_pattern_form : Form MarkedToken
predicate_pattern_form = record { Tree = PredicatePatternTree; spell = spell.spell_predicate_pattern; levels = levels.levels_predicate_pattern; each = each.each_predicate_pattern; IsTree = λ _. Unit {0}; goes = λ _ t. goes_on_pattern (sign_of t) }

abbrev pub attribute_pattern_form : Form MarkedToken
attribute_pattern_form = record { Tree = AttributePatternTree; spell = spell.spell_attribute_pattern; levels = levels.levels_attribute_pattern; each = each.each_attribute_pattern; IsTree = λ _. Unit {0}; goes = λ _ t. goes_on_pattern (sign_of t) }

abbrev pub mode_pattern_form : Form MarkedToken
mode_pattern_form = record { Tree = ModePatternTree; spell = spell.spell_mode_pattern; levels = levels.levels_mode_pattern; each = each.each_mode_pattern; IsTree = λ _. Unit {0}; goes = λ _ t. goes_on_pattern (sign_of t) }

abbrev pub pattern_form : Form MarkedToken
pattern_form = record { Tree = PatternTree; spell = spell.spell_pattern; levels = levels.levels_pattern; each = each.each_pattern; IsTree = λ _. Unit {0}; goes = λ _ t. goes_on_pattern (sign_of t) }
