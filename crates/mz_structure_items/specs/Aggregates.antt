-- The notation of a structure's aggregate. As the fields are read the loci are the constants from `least` on, of which there are `count`, the
-- structure's object is the one behind them, and no field has a value.
use Rattle.std.specs.Prelude.{ℕ, suc, ◌+◌, ◌-◌, Bool, ◌&&◌, nat_eq, if◌then◌else◌, List, [], ◌∷◌, ◌++◌, length, map, flat_map, Option, Some, None, slice_get}
use Rattle.std.specs.List.{list_all}
use Rattle.mz_logic.specs.Term.{Term, Bound, App, terms_of}
use Rattle.mz_logic.specs.declared.kind.Kind.TheVariants as kind
use Rattle.mz_logic.specs.declared.sym.Sym.{Sym}
use Rattle.mz_core.specs.Hidden.{object_type}
use Rattle.mz_core.specs.declared.notation.Meaning.TheVariants.{OfTerm}
use Rattle.mz_core.specs.declared.notation.Notation.{Notation}
use Rattle.mz_core.specs.declared.soft_type.SoftType.{SoftType}
use Rattle.mz_core.specs.Closed.{term_under, loci_closed}
use Rattle.mz_items.specs.Closed.{is_locus, are_distinct}
use Rattle.mz_items.specs.Exports.{notation_of}
use Rattle.mz_items.specs.Loci.{variables}
use Rattle.mz_loci.specs.Loci.{type_over_loci}
use Rattle.mz_patterns.specs.Patterns.{visible, pattern}
use Rattle.mz_fields.specs.Order.{field_order}
use Rattle.mz_fields.specs.Values.{type_with_values}
use Rattle.mz_field_items.specs.Fields.{selectors_of}
use Rattle.mz_field_items.specs.declared.fields.ReadField.{ReadField}

-- the types of the fields, with the constants behind the object y for the fields' values
abbrev pub valued_type : ℕ → List Sym → ReadField → SoftType
valued_type y selectors f = type_with_values y (y + 1) selectors f.ty

abbrev pub valued_types : ℕ → List ReadField → List SoftType
valued_types y fs = map (valued_type y (selectors_of fs)) fs

-- the places of the fields in the order in which the pattern has them
abbrev pub kept_order : ℕ → List ReadField → List ℕ
kept_order y fs = field_order y (valued_types y fs)

-- the selectors in this order
abbrev pub selector_if_any : Option ReadField → List Sym
selector_if_any None = []
selector_if_any (Some f) = f.selector ∷ []

abbrev pub selector_at : List ReadField → ℕ → List Sym
selector_at fs k = selector_if_any (slice_get fs k)

abbrev pub selectors_at : List ReadField → List ℕ → List Sym
selectors_at fs order = flat_map (selector_at fs) order

-- the type of a field as one of the pattern's loci, behind the structure's loci and so many fields: for the selectors of the object stand the
-- fields in this order
abbrev pub field_locus : ℕ → ℕ → List Sym → ℕ → Option ReadField → SoftType
field_locus least count ordered before None = object_type
field_locus least count ordered before (Some f) = type_over_loci least (count + before) (type_with_values (least + count) (least + count) ordered f.ty)

abbrev pub field_loci : ℕ → ℕ → List Sym → List ReadField → ℕ → List ℕ → List SoftType
field_loci least count ordered fs before [] = []
field_loci least count ordered fs before (k ∷ ks) = field_locus least count ordered before (slice_get fs k) ∷ field_loci least count ordered fs (suc before) ks

-- at which place of the order a number stands; behind it, where it isn't there
abbrev pub index_in : ℕ → List ℕ → ℕ
index_in i [] = 0
index_in i (k ∷ ks) = if nat_eq i k then 0 else suc (index_in i ks)

-- the places of the fields among the pattern's loci, in the order of the text
abbrev pub field_places : ℕ → List ℕ → ℕ → List ReadField → List ℕ
field_places count order i [] = []
field_places count order i (f ∷ fs) = (count + index_in i order) ∷ field_places count order (suc i) fs

-- the locus at a place of so many loci, as an index
abbrev pub index_at : ℕ → ℕ → Term
index_at all place = Bound (all - suc place)

-- the aggregate of the structure's loci and of so many fields, which stand at these places in the order of the text
abbrev pub aggregate_of : ℕ → Sym → ℕ → List ℕ → Term
aggregate_of count s fields places = App s (terms_of (variables fields count ++ map (index_at (count + fields)) places))

-- the loci of its pattern: the structure's, and then the fields in this order
abbrev pub aggregate_loci : ℕ → List SoftType → List ReadField → List ℕ → List SoftType
aggregate_loci least loci fs order = loci ++ field_loci least (length loci) (selectors_at fs order) fs 0 order

-- each locus stands under those before it, and each field is one of them, another than the others
abbrev pub are_closed : List SoftType → List ℕ → Term → Bool
are_closed loci places t = loci_closed loci && (list_all (is_locus (length loci)) places && (are_distinct places && term_under (length loci) t))

-- the notation, where this is so: not where types speak of the object, or of one another in a circle
abbrev pub aggregate_notation : List ℕ → List SoftType → List ℕ → Term → Notation
aggregate_notation symbol loci places t = notation_of (pattern kind.Aggregate symbol loci (visible [] places)) (OfTerm t)

abbrev pub if_closed : List ℕ → List SoftType → List ℕ → Term → List Notation
if_closed symbol loci places t = if are_closed loci places t then aggregate_notation symbol loci places t ∷ [] else []

abbrev pub in_order : ℕ → List ℕ → List SoftType → Sym → List ReadField → List ℕ → List ℕ → List Notation
in_order least symbol loci s fs order places = if_closed symbol (aggregate_loci least loci fs order) places (aggregate_of (length loci) s (length order) places)

abbrev pub aggregate_in_order : ℕ → List ℕ → List SoftType → Sym → List ReadField → List ℕ → List Notation
aggregate_in_order least symbol loci s fs order = in_order least symbol loci s fs order (field_places (length loci) order 0 fs)

abbrev pub aggregate_notations : ℕ → List ℕ → List SoftType → Sym → List ReadField → List Notation
aggregate_notations least symbol loci s fs = aggregate_in_order least symbol loci s fs (kept_order (least + length loci) fs)
