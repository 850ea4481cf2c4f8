-- The selectors that a structure has of its ancestors.
use Rattle.std.specs.Prelude.{ℕ, Bool, true, false, ◌&&◌, bytes_eq, if◌then◌else◌, List, [], ◌∷◌, ◌++◌, map, flat_map, find, Option, Some, None}
use Rattle.std.specs.List.{list_all, list_any}
use Rattle.mz_logic.specs.Sym.{same_sym}
use Rattle.mz_logic.specs.Term.{Term, Bound, Const, App}
use Rattle.mz_logic.specs.declared.kind.Kind.{Kind}
use Rattle.mz_logic.specs.declared.kind.Kind.TheVariants as kind
use Rattle.mz_logic.specs.declared.sym.Sym.{Sym}
use Rattle.mz_core.specs.declared.notation.Meaning.{Meaning}
use Rattle.mz_core.specs.declared.notation.Meaning.TheVariants.{OfTerm, OfLiteral, OfType}
use Rattle.mz_core.specs.declared.notation.Notation.{Notation}
use Rattle.mz_core.specs.declared.soft_type.SoftType.{SoftType}
use Rattle.mz_core.specs.declared.structure.Structure.{Structure}
use Rattle.mz_types.specs.Structures.{structure_of}
use Rattle.mz_structure_items.specs.declared.selectors.NamedSelector.{NamedSelector}

-- the selector that a notation of a structure is of, with its spelling
abbrev pub named : List ℕ → Sym → NamedSelector
named name s = record { name = name; selector = s }

abbrev pub selector_in_term : List ℕ → Term → List NamedSelector
selector_in_term name (Bound index) = []
selector_in_term name (Const number) = []
selector_in_term name (App s ts) = named name s ∷ []

abbrev pub selector_in : List ℕ → Meaning → List NamedSelector
selector_in name (OfTerm t) = selector_in_term name t
selector_in name (OfLiteral l) = []
selector_in name (OfType ty) = []

abbrev pub is_selector_kind : Kind → Bool
is_selector_kind kind.Mode = false
is_selector_kind kind.Structure = false
is_selector_kind kind.Attribute = false
is_selector_kind kind.Functor = false
is_selector_kind kind.Selector = true
is_selector_kind kind.Aggregate = false
is_selector_kind kind.Predicate = false
is_selector_kind kind.LetterFunctor = false
is_selector_kind kind.LetterPredicate = false

abbrev pub selectors_of_notation : Notation → List NamedSelector
selectors_of_notation x = if is_selector_kind x.pattern.kind then selector_in x.pattern.symbol x.meaning else []

-- those of the structure that a type's radix is, if it is one
abbrev pub selectors_if_any : Option Structure → List NamedSelector
selectors_if_any None = []
selectors_if_any (Some s) = flat_map selectors_of_notation s.notations

abbrev pub selectors_of_type : List Structure → SoftType → List NamedSelector
selectors_of_type all ty = selectors_if_any (structure_of all ty.radix.sym)

-- the first selector with the name
abbrev pub is_named : List ℕ → NamedSelector → Bool
is_named name x = bytes_eq x.name name

abbrev pub symbol_if_any : Option NamedSelector → Option Sym
symbol_if_any None = None
symbol_if_any (Some x) = Some x.selector

abbrev pub selector_named : List ℕ → List NamedSelector → Option Sym
selector_named name xs = symbol_if_any (find (is_named name) xs)

-- a selector of an ancestor is a field: there is one with its name, which has this selector as its symbol
abbrev pub is_symbol : Sym → Option Sym → Bool
is_symbol s None = false
is_symbol s (Some t) = same_sym t s

abbrev pub has_spelling : List ℕ → List ℕ → Bool
has_spelling name other = bytes_eq other name

abbrev pub is_field : List (List ℕ) → List NamedSelector → NamedSelector → Bool
is_field names inherited x = list_any (has_spelling x.name) names && is_symbol x.selector (selector_named x.name inherited)

abbrev pub are_fields : List (List ℕ) → List NamedSelector → List NamedSelector → Bool
are_fields names inherited xs = list_all (is_field names inherited) xs
