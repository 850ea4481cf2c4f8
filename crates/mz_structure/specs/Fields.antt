-- The ancestors and fields of a structure, read one after another. The structure's loci are the constants from `least` on.
use Rattle.std.specs.Prelude.{◌≡◌, ℕ, zero, suc, ◌+◌, Bool, true, false, ◌&&◌, nat_eq, nat_lt, if◌then◌else◌, List, [], ◌∷◌, ◌++◌, map, count_by, Option, Some, None, Ok, Err}
use Rattle.std.specs.List.{list_any}
use Rattle.mz_base.specs.declared.place.Place.{Place}
use Rattle.mz_logic.specs.Term.{Term, Const}
use Rattle.mz_logic.specs.declared.kind.Kind.TheVariants as kind
use Rattle.mz_logic.specs.declared.sym.Sym.{Sym}
use Rattle.mz_core.specs.declared.item.Item.TheVariants as item
use Rattle.mz_core.specs.declared.outcome.Left.{Left}
use Rattle.mz_core.specs.declared.soft_type.SoftType.{SoftType}
use Rattle.mz_context.specs.Context.{next}
use Rattle.mz_context.specs.declared.context.Context.{Context}
use Rattle.mz_environment.specs.Environment.{joined, of_item}
use Rattle.mz_environment.specs.declared.environment.Environment.{Environment}
use Rattle.mz_environment.specs.declared.numbering.Numbering.{Numbering}
use Rattle.mz_cited.specs.Cited.{members}
use Rattle.mz_choice.specs.Fresh.{with_fresh}
use Rattle.mz_justified.specs.declared.proof_fault.ProofRefusal.TheVariants.{Resolve}
use Rattle.mz_names.specs.declared.refusal.Refusal.{Refusal}
use Rattle.mz_resolve.specs.Calls.{TypeRead}
use Rattle.mz_taken.specs.Taken.{Taken, Made, Refused}
use Rattle.mz_taken.specs.declared.item_fault.ItemRefusal.TheVariants.{Proof, SelectorRepeated, AncestorUnfit}
use Rattle.mz_tree.specs.Places.{first_place}
use Rattle.mz_tree.specs.Spell.{spell_type}
use Rattle.mz_tree.specs.Trees.{TypeData}
use Rattle.mz_tree_heading.specs.declared.structure.FieldTree.{FieldTree}
use Rattle.mz_tree_heading.specs.declared.structure.SelectorTree.{SelectorTree}
use Rattle.mz_field_items.specs.declared.fields.ReadField.{ReadField}
use Rattle.mz_structure_items.specs.Items.{half_structure}
use Rattle.mz_structure_items.specs.Selectors.{selectors_of_type, selector_named, are_fields, has_spelling}
use Rattle.mz_structure_items.specs.declared.selectors.NamedSelector.{NamedSelector}
use Rattle.mz_structure.specs.declared.ancestry.Ancestry.{Ancestry}
use Rattle.mz_structure.specs.declared.ancestry.Outline.{Outline}

-- ancestors

-- what was read so far, and what the article has left
pub record Reading (X : Type 0) : Type 0 where
  pub got : X
  pub left : Left

abbrev pub reading : {X : Type 0} → X → Left → Reading X
reading x l = record { got = x; left = l }

abbrev pub no_ancestry : Ancestry
no_ancestry = record { types = []; inherited = [] }

abbrev pub with_ancestor : Ancestry → SoftType → List NamedSelector → Ancestry
with_ancestor a ty xs = record { types = a.types ++ ty ∷ []; inherited = a.inherited ++ xs }

-- an ancestor of a structure whose fields have these names: its type is read, and each of its selectors has to be a field
pub data ReadsAncestor (e : Environment) (c : Context) (least : ℕ) (names : List (List ℕ)) (a : Reading Ancestry) (t : TypeData) : Taken (Reading Ancestry) → Type 0 where
  not_read : (r : Refusal) (after : Left) → TypeRead e c least a.left t (Err r) after → ReadsAncestor e c least names a t (Refused (Proof (Resolve r)))
  unfit : (ty : SoftType) (after : Left) (first : Place) → TypeRead e c least a.left t (Ok ty) after → first_place (spell_type t) ≡ Some first →
      are_fields names (a.got.inherited ++ selectors_of_type e.structures ty) (selectors_of_type e.structures ty) ≡ false → ReadsAncestor e c least names a t (Refused (AncestorUnfit first))
  fit : (ty : SoftType) (after : Left) → TypeRead e c least a.left t (Ok ty) after →
      are_fields names (a.got.inherited ++ selectors_of_type e.structures ty) (selectors_of_type e.structures ty) ≡ true →
      ReadsAncestor e c least names a t (Made [] (reading (with_ancestor a.got ty (selectors_of_type e.structures ty)) after))

-- fields

abbrev pub spelling_of : SelectorTree → List ℕ
spelling_of t = t.symbol.spelling

abbrev pub names_of_group : FieldTree → List (List ℕ)
names_of_group t = map spelling_of (members t.selectors)

abbrev pub name_of : ReadField → List ℕ
name_of f = f.name

-- the place of the first selector of the group that stood before
abbrev pub first_repeated : List (List ℕ) → List SelectorTree → Option Place
first_repeated names [] = None
first_repeated names (t ∷ ts) = if list_any (has_spelling t.symbol.spelling) names then Some t.symbol.place else first_repeated (names ++ t.symbol.spelling ∷ []) ts

-- the symbol of a field: that of the first ancestor's selector with its name; else the next selector of the article
abbrev pub is_new : Context → ReadField → Bool
is_new c f = nat_eq f.selector.article c.article && nat_lt c.counts.selectors f.selector.number

abbrev pub next_selector : Context → List ReadField → Sym
next_selector c fs = record { article = c.article; kind = kind.Selector; number = c.counts.selectors + (count_by (is_new c) fs + 1) }

abbrev pub or_next : Context → List ReadField → Option Sym → Sym
or_next c fs None = next_selector c fs
or_next c fs (Some s) = s

abbrev pub field : Context → List NamedSelector → List ReadField → SoftType → SelectorTree → ReadField
field c inherited fs ty t = record { name = t.symbol.spelling; selector = or_next c fs (selector_named t.symbol.spelling inherited); ty = ty }

abbrev pub with_group : Context → List NamedSelector → SoftType → List ReadField → List SelectorTree → List ReadField
with_group c inherited ty fs [] = fs
with_group c inherited ty fs (t ∷ ts) = with_group c inherited ty (fs ++ field c inherited fs ty t ∷ []) ts

-- the structure at its loci, and the context in which its fields are read: its object is the constant behind them, of which `the` selectors
-- without an argument are meant
abbrev pub loci_in_order : ℕ → ℕ → List Term
loci_in_order least zero = []
loci_in_order least (suc k) = loci_in_order least k ++ Const (least + k) ∷ []

abbrev pub type_at_loci : ℕ → ℕ → Sym → SoftType
type_at_loci least count s = record { adjectives = []; radix = record { sym = s; args = loci_in_order least count } }

abbrev pub with_subject : Context → SoftType → Context
with_subject c ty = record (with_fresh c ty) { subject = Some (Const (next c)) }

-- what the type of a further field may use: all that an item of the structure as far as it was read gives. Its clauses of aggregates and of
-- `strict` have no use, since neither has a notation yet
abbrev pub environment_with : Environment → Numbering → Outline → List ReadField → Environment
environment_with e n o fs = joined e (of_item n (item.Structure (half_structure o.least o.loci o.symbols o.ancestry.types fs)))

-- fields with one type: none of their selectors may have stood before; then the type is read in the context d, by the structure with the
-- ancestors and the fields above
pub data ReadsGroup (e : Environment) (n : Numbering) (d : Context) (o : Outline) (r : Reading (List ReadField)) (t : FieldTree) : Taken (Reading (List ReadField)) → Type 0 where
  repeated : (p : Place) → first_repeated (map name_of r.got) (members t.selectors) ≡ Some p → ReadsGroup e n d o r t (Refused (SelectorRepeated p))
  not_read : (q : Refusal) (after : Left) → first_repeated (map name_of r.got) (members t.selectors) ≡ None →
      TypeRead (environment_with e n o r.got) d o.least r.left t.ty (Err q) after → ReadsGroup e n d o r t (Refused (Proof (Resolve q)))
  group_read : (ty : SoftType) (after : Left) → first_repeated (map name_of r.got) (members t.selectors) ≡ None →
      TypeRead (environment_with e n o r.got) d o.least r.left t.ty (Ok ty) after → ReadsGroup e n d o r t (Made [] (reading (with_group d o.ancestry.inherited ty r.got (members t.selectors)) after))
