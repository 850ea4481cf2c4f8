-- The item of a structure. As its ancestors and fields are read the loci are the constants from `least` on, the structure's object is the one
-- behind them, and no field has a value.
use Rattle.std.specs.Prelude.{ℕ, ◌+◌, List, [], ◌∷◌, ◌++◌, length, map}
use Rattle.mz_logic.specs.Term.{Term, Bound, App, terms_of}
use Rattle.mz_logic.specs.declared.kind.Kind.{Kind}
use Rattle.mz_logic.specs.declared.kind.Kind.TheVariants as kind
use Rattle.mz_logic.specs.declared.sym.Sym.{Sym}
use Rattle.mz_core.specs.declared.notation.Meaning.TheVariants.{OfTerm, OfLiteral, OfType}
use Rattle.mz_core.specs.declared.notation.Notation.{Notation}
use Rattle.mz_core.specs.declared.pattern.Pattern.{Pattern}
use Rattle.mz_core.specs.declared.soft_type.SoftType.{SoftType}
use Rattle.mz_core.specs.declared.structure.Structure.{Structure}
use Rattle.mz_context.specs.declared.context.Context.{Context}
use Rattle.mz_items.specs.Exports.{notation_of}
use Rattle.mz_items.specs.Loci.{predicate_on, mode_on}
use Rattle.mz_loci.specs.Loci.{type_over_loci}
use Rattle.mz_patterns.specs.Patterns.{visible, pattern}
use Rattle.mz_field_items.specs.Fields.{fields_of}
use Rattle.mz_field_items.specs.declared.fields.ReadField.{ReadField}
use Rattle.mz_structure_items.specs.declared.symbols.StructureSymbols.{StructureSymbols}
use Rattle.mz_structure_items.specs.Aggregates.{aggregate_notations}

-- the symbols of a structure: the next ones of the article
abbrev pub structure_symbols : Context → StructureSymbols
structure_symbols c = record {
  sym = record { article = c.article; kind = kind.Structure; number = c.counts.structures + 1 };
  strict = record { article = c.article; kind = kind.Attribute; number = c.counts.attributes + 1 };
  aggregate = record { article = c.article; kind = kind.Aggregate; number = c.counts.aggregates + 1 };
}

-- the loci and then the structure's object
abbrev pub with_object : List SoftType → Sym → List SoftType
with_object loci s = loci ++ mode_on loci s ∷ []

-- the structure, with these of its loci visible
abbrev pub structure_notation : List ℕ → List SoftType → Sym → List ℕ → Notation
structure_notation symbol loci s places = notation_of (pattern kind.Structure symbol loci (visible [] places)) (OfType (mode_on loci s))

-- a pattern whose one visible locus is the structure's object
abbrev pub pattern_of_object : Kind → List ℕ → List SoftType → Sym → Pattern
pattern_of_object k symbol loci s = pattern k symbol (with_object loci s) (visible [] (length loci ∷ []))

-- `strict`
abbrev pub strict_word : List ℕ
strict_word = 115 ∷ 116 ∷ 114 ∷ 105 ∷ 99 ∷ 116 ∷ []

abbrev pub strict_notation : List SoftType → StructureSymbols → Notation
strict_notation loci syms = notation_of (pattern_of_object kind.Attribute strict_word loci syms.sym) (OfLiteral (predicate_on (with_object loci syms.sym) syms.strict))

-- a selector, by its name
abbrev pub selected_inside : Sym → Term
selected_inside selector = App selector (terms_of (Bound 0 ∷ []))

abbrev pub selector_notation : List SoftType → Sym → ReadField → Notation
selector_notation loci s f = notation_of (pattern_of_object kind.Selector f.name loci s) (OfTerm (selected_inside f.selector))

abbrev pub selector_notations : List SoftType → Sym → List ReadField → List Notation
selector_notations loci s fs = map (selector_notation loci s) fs

abbrev pub ancestor_types : ℕ → ℕ → List SoftType → List SoftType
ancestor_types least count tys = map (type_over_loci least count) tys

-- the structure with these notations
abbrev pub structure_with : ℕ → List SoftType → StructureSymbols → List SoftType → List ReadField → List Notation → Structure
structure_with least loci syms ancestors fs notations = record {
  loci = loci;
  sym = syms.sym;
  strict = syms.strict;
  aggregate = syms.aggregate;
  ancestors = ancestor_types least (length loci) ancestors;
  fields = fields_of least (length loci) fs;
  notations = notations;
}

-- as the type of a further field knows it: with its ancestors and the fields above
abbrev pub half_structure : ℕ → List SoftType → StructureSymbols → List SoftType → List ReadField → Structure
half_structure least loci syms ancestors fs = structure_with least loci syms ancestors fs (selector_notations loci syms.sym fs)

-- the whole structure, whose symbol has the spelling
abbrev pub structure_notations : ℕ → List ℕ → List SoftType → StructureSymbols → List ℕ → List ReadField → List Notation
structure_notations least symbol loci syms places fs =
    structure_notation symbol loci syms.sym places ∷ strict_notation loci syms ∷ (aggregate_notations least symbol loci syms.aggregate fs ++ selector_notations loci syms.sym fs)

abbrev pub whole_structure : ℕ → List ℕ → List SoftType → StructureSymbols → List ℕ → List SoftType → List ReadField → Structure
whole_structure least symbol loci syms places ancestors fs = structure_with least loci syms ancestors fs (structure_notations least symbol loci syms places fs)
