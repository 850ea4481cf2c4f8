-- What comes of a structure. It is a heading of a block of definitions, whose loci are the constants with the numbers from `least` on; behind
-- it stand the conditions and properties that are written there.
use Rattle.std.specs.Prelude.{◌≡◌, ℕ, Bool, true, false, ◌&&◌, nat_le, if◌then◌else◌, List, [], ◌∷◌, length, flat_map, Option, Some, None}
use Rattle.std.specs.List.{list_all}
use Rattle.mz_core.specs.declared.item.Item.{Item}
use Rattle.mz_core.specs.declared.item.Item.TheVariants as item
use Rattle.mz_core.specs.declared.outcome.Left.{Left}
use Rattle.mz_core.specs.declared.soft_type.SoftType.{SoftType}
use Rattle.mz_context.specs.declared.constants.Constant.{Constant}
use Rattle.mz_context.specs.declared.context.Context.{Context}
use Rattle.mz_cited.specs.Cited.{members}
use Rattle.mz_items.specs.Items.{granted_statements}
use Rattle.mz_items.specs.declared.condition.Condition.{Condition}
use Rattle.mz_justified.specs.declared.proof_fault.ProofRefusal.TheVariants.{Resolve}
use Rattle.mz_loci.specs.Loci.{loci_from, locus_types}
use Rattle.mz_names.specs.declared.refusal.Refusal.TheVariants.{TooLarge}
use Rattle.mz_obligations.specs.declared.obligation.Obligation.{Obligation}
use Rattle.mz_owed.specs.Owed.{named, number_of}
use Rattle.mz_patterns.specs.Patterns.{visible_loci}
use Rattle.mz_patterns.specs.declared.visible.Visible.{Visible}
use Rattle.mz_sizes.specs.Sizes.{statement_keeps}
use Rattle.mz_standing.specs.Standing.{with_left, with_context, with_item, behind_heading}
use Rattle.mz_standing.specs.declared.standing.Standing.{Standing}
use Rattle.mz_taken.specs.Taken.{Taken, Made, Refused}
use Rattle.mz_taken.specs.OneByOne.{OneByOne}
use Rattle.mz_taken.specs.declared.item_fault.ItemRefusal.{ItemRefusal}
use Rattle.mz_taken.specs.declared.item_fault.ItemRefusal.TheVariants.{Proof, ConditionStray, BadLoci}
use Rattle.mz_tree.specs.Trees.{TypeData}
use Rattle.mz_tree_heading.specs.declared.patterns.IdentifierTree.{IdentifierTree}
use Rattle.mz_tree_heading.specs.declared.structure.AncestorsTree.{AncestorsTree}
use Rattle.mz_tree_heading.specs.declared.structure.StructureLociTree.{StructureLociTree}
use Rattle.mz_tree_heading.specs.declared.structure.StructureTree.{StructureTree}
use Rattle.mz_tree_item.specs.declared.definition.ConditionOrPropertyTree.{ConditionOrPropertyTree}
use Rattle.mz_tree_item.specs.declared.definition.ConditionOrPropertyTree.TheVariants as written
use Rattle.mz_field_items.specs.declared.fields.ReadField.{ReadField}
use Rattle.mz_structure_items.specs.Items.{structure_symbols, whole_structure}
use Rattle.mz_structure.specs.Fields.{Reading, reading, no_ancestry, ReadsAncestor, names_of_group, type_at_loci, with_subject, ReadsGroup}
use Rattle.mz_structure.specs.declared.ancestry.Ancestry.{Ancestry}
use Rattle.mz_structure.specs.declared.ancestry.Outline.{Outline}

-- the parts of the tree
abbrev pub identifiers_over : Option StructureLociTree → List IdentifierTree
identifiers_over None = []
identifiers_over (Some t) = members t.identifiers

abbrev pub ancestor_trees : Option AncestorsTree → List TypeData
ancestor_trees None = []
ancestor_trees (Some t) = members t.types

abbrev pub field_names : StructureTree → List (List ℕ)
field_names t = flat_map names_of_group (members t.fields)

-- the loci of the block, and those that the pattern names
abbrev pub own_loci : ℕ → Standing → List (Option Constant)
own_loci least s = loci_from least s.context.constants

abbrev pub structure_loci : ℕ → Standing → StructureTree → Option Visible
structure_loci least s t = visible_loci least (own_loci least s) [] (identifiers_over t.loci)

-- at most so many, since each makes a grant deeper by one
abbrev pub are_few : {X : Type 0} → List X → Bool
are_few xs = nat_le (length xs) 512

abbrev pub has_few : ℕ → Standing → StructureTree → Bool
has_few least s t = are_few (own_loci least s) && (are_few (ancestor_trees t.ancestors) && are_few (field_names t))

-- behind its ancestors
abbrev pub outline : ℕ → Standing → Ancestry → Outline
outline least s a = record { least = least; loci = locus_types least (own_loci least s); symbols = structure_symbols s.context; ancestry = a }

-- the context in which the fields are read
abbrev pub context_of_fields : ℕ → Standing → Context
context_of_fields least s = with_subject s.context (type_at_loci least (length (own_loci least s)) (structure_symbols s.context).sym)

-- the item
abbrev pub structure_item : ℕ → Standing → StructureTree → Visible → Ancestry → List ReadField → Item
structure_item least s t v a fs = item.Structure (whole_structure least t.symbol.spelling (locus_types least (own_loci least s)) (structure_symbols s.context) v.right a.types fs)

-- what it grants keeps the limits on nodes and depth
abbrev pub grants_keep : Item → Bool
grants_keep x = list_all statement_keeps (granted_statements x)

-- it owes nothing, so each condition behind it is stray; and it has no properties
abbrev pub first_stray : List ConditionOrPropertyTree → Option ItemRefusal
first_stray [] = None
first_stray (written.Condition c ∷ ws) = Some (ConditionStray c.place (number_of (named c.word)))
first_stray (written.Property p ∷ ws) = Some (ConditionStray p.place 7)

abbrev pub in_force : Standing → Item → Left → Standing
in_force s x left = with_left (with_context (with_item s x) (behind_heading s.context x [])) left

abbrev pub unless_stray : Option ItemRefusal → Standing → Taken Standing
unless_stray None t = Made [] t
unless_stray (Some r) t = Refused r

abbrev pub structure_taken : Standing → StructureTree → List ConditionOrPropertyTree → Item → Left → Taken Standing
structure_taken s t ws x left = if grants_keep x then unless_stray (first_stray ws) (in_force s x left) else Refused (Proof (Resolve (TooLarge t.struct_)))

-- its fields are read, by their groups, behind these ancestors
pub data TakesFields (least : ℕ) (s : Standing) (t : StructureTree) (ws : List ConditionOrPropertyTree) (v : Visible) (a : Reading Ancestry) : Taken Standing → Type 0 where
  field_refused : (r : ItemRefusal) → OneByOne (ReadsGroup s.environment s.numbering (context_of_fields least s) (outline least s a.got)) (reading [] a.left) (members t.fields) (Refused r) →
      TakesFields least s t ws v a (Refused r)
  fields_read : (os : List Obligation) (f : Reading (List ReadField)) →
      OneByOne (ReadsGroup s.environment s.numbering (context_of_fields least s) (outline least s a.got)) (reading [] a.left) (members t.fields) (Made os f) →
      TakesFields least s t ws v a (structure_taken s t ws (structure_item least s t v a.got f.got) f.left)

-- its ancestors are read, and then its fields
pub data TakesAncestors (least : ℕ) (s : Standing) (t : StructureTree) (ws : List ConditionOrPropertyTree) (v : Visible) : Taken Standing → Type 0 where
  ancestor_refused : (r : ItemRefusal) → OneByOne (ReadsAncestor s.environment s.context least (field_names t)) (reading no_ancestry s.left) (ancestor_trees t.ancestors) (Refused r) →
      TakesAncestors least s t ws v (Refused r)
  ancestors_read : (os : List Obligation) (a : Reading Ancestry) (o : Taken Standing) →
      OneByOne (ReadsAncestor s.environment s.context least (field_names t)) (reading no_ancestry s.left) (ancestor_trees t.ancestors) (Made os a) →
      TakesFields least s t ws v a o → TakesAncestors least s t ws v o

-- In this order: its loci are those that the pattern wants; of loci, ancestors and fields there are few; its ancestors and fields are read;
-- what it grants keeps the limits; and no condition stands behind it.
pub data Structures (least : ℕ) (s : Standing) (t : StructureTree) (conditions : List ConditionOrPropertyTree) : Taken Standing → Type 0 where
  bad_loci : structure_loci least s t ≡ None → Structures least s t conditions (Refused (BadLoci t.struct_))
  too_many : (v : Visible) → structure_loci least s t ≡ Some v → has_few least s t ≡ false → Structures least s t conditions (Refused (Proof (Resolve (TooLarge t.struct_))))
  few : (v : Visible) (o : Taken Standing) → structure_loci least s t ≡ Some v → has_few least s t ≡ true → TakesAncestors least s t conditions v o → Structures least s t conditions o
