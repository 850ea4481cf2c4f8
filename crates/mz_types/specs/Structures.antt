-- Structures, their fields and aggregates at arguments.
use Rattle.std.specs.Prelude.{◌≡◌, Bool, List, [], ◌∷◌, ◌++◌, length, map, reverse, take, drop, Option, Some, None, find}
use Rattle.mz_logic.specs.Sym.{same_sym}
use Rattle.mz_logic.specs.declared.sym.Sym.{Sym}
use Rattle.mz_logic.specs.Term.{Term, App, terms_of}
use Rattle.mz_core.specs.declared.structure.Field.{Field}
use Rattle.mz_core.specs.declared.radix.Radix.{Radix}
use Rattle.mz_core.specs.declared.soft_type.SoftType.{SoftType}
use Rattle.mz_core.specs.declared.structure.Structure.{Structure}
use Rattle.mz_context.specs.declared.constants.Constant.{Constant}
use Rattle.mz_items.specs.StructureRows.{selected, field_values}
use Rattle.mz_ground.specs.declared.clause.Clause.{Clause}
use Rattle.mz_fits.specs.Fits.{type_at, TypeFits, LociFit}
use Rattle.mz_types.specs.RowTypes.{radix_at}

abbrev pub is_structure : Sym → Structure → Bool
is_structure s x = same_sym x.sym s

abbrev pub has_aggregate : Sym → Structure → Bool
has_aggregate s x = same_sym x.aggregate s

abbrev pub has_selector : Sym → Field → Bool
has_selector s f = same_sym f.selector s

-- the structure of a symbol, and that of an aggregate's symbol
abbrev pub structure_of : List Structure → Sym → Option Structure
structure_of xs s = find (is_structure s) xs

abbrev pub made_by : List Structure → Sym → Option Structure
made_by xs s = find (has_aggregate s) xs

-- the radix of a field's type for an object of the structure at these arguments: `the sj` is sj of the object
unfoldable pub field_radix : Structure → List Term → Term → Field → Radix
field_radix x args t f = (type_at (field_values (reverse (map (selected t) x.fields)) t (reverse args)) f.ty).radix

-- the field that a member of a chain has for a selector, where the member is a structure that has it and the guards of
-- its loci fit: the radix of the field's type
pub data MemberGives (cs : List Clause) (ks : List (Option Constant)) (all : List Structure) (s : Sym) (t : Term) (r : Radix) : Option Radix → Type 0 where
  no_structure : structure_of all r.sym ≡ None → MemberGives cs ks all s t r None
  no_field : (x : Structure) → structure_of all r.sym ≡ Some x → find (has_selector s) x.fields ≡ None → MemberGives cs ks all s t r None
  unfit : (x : Structure) (f : Field) → structure_of all r.sym ≡ Some x → find (has_selector s) x.fields ≡ Some f → ¬ LociFit cs ks [] x.loci r.args → MemberGives cs ks all s t r None
  of_field : (x : Structure) (f : Field) → structure_of all r.sym ≡ Some x → find (has_selector s) x.fields ≡ Some f → LociFit cs ks [] x.loci r.args → MemberGives cs ks all s t r (Some (field_radix x r.args t f))

-- that of the first member that gives one
pub data FirstGives (cs : List Clause) (ks : List (Option Constant)) (all : List Structure) (s : Sym) (t : Term) : List Radix → Option Radix → Type 0 where
  none_gives : FirstGives cs ks all s t [] None
  this_gives : (r : Radix) (rs : List Radix) (x : Radix) → MemberGives cs ks all s t r (Some x) → FirstGives cs ks all s t (r ∷ rs) (Some x)
  not_this : (r : Radix) (rs : List Radix) (o : Option Radix) → MemberGives cs ks all s t r None → FirstGives cs ks all s t rs o → FirstGives cs ks all s t (r ∷ rs) o

-- each value fits its field's type, with these values for the type's indices
pub data FieldsFit (cs : List Clause) (ks : List (Option Constant)) (values : List Term) : List Field → List Term → Type 0 where
  no_fields : FieldsFit cs ks values [] []
  and_field : (f : Field) (fs : List Field) (z : Term) (zs : List Term) → TypeFits cs ks z (type_at values f.ty) → FieldsFit cs ks values fs zs → FieldsFit cs ks values (f ∷ fs) (z ∷ zs)

-- what stands for the indices of the fields' types for an aggregate of these arguments: `the sj` is the value of the
-- field j, and the object is the aggregate
abbrev pub given_values : Structure → List Term → List Term
given_values x args = field_values (reverse (drop (length x.loci) args)) (App x.aggregate (terms_of args)) (reverse (take (length x.loci) args))

-- the guards of an aggregate's arguments fit: first the loci's, then the fields'
pub record AggregateFits (cs : List Clause) (ks : List (Option Constant)) (x : Structure) (args : List Term) : Type 0 where
  pub loci : LociFit cs ks [] x.loci (take (length x.loci) args)
  pub fields : FieldsFit cs ks (given_values x args) x.fields (drop (length x.loci) args)

-- the structure of an aggregate at its arguments
abbrev pub made_radix : Structure → List Term → Radix
made_radix x args = record { sym = x.sym; args = take (length x.loci) args }

pub data AggregateGives (cs : List Clause) (ks : List (Option Constant)) (all : List Structure) (s : Sym) (args : List Term) : Option Radix → Type 0 where
  of_none : made_by all s ≡ None → AggregateGives cs ks all s args None
  unfit_arguments : (x : Structure) → made_by all s ≡ Some x → ¬ AggregateFits cs ks x args → AggregateGives cs ks all s args None
  of_structure : (x : Structure) → made_by all s ≡ Some x → AggregateFits cs ks x args → AggregateGives cs ks all s args (Some (made_radix x args))

-- the ancestors of a structure at arguments, in order, where its guards fit
abbrev pub ancestors_at : Structure → List Term → List Radix
ancestors_at x args = map (radix_at args) x.ancestors

pub data AncestorsGive (cs : List Clause) (ks : List (Option Constant)) (all : List Structure) (r : Radix) : List Radix → Type 0 where
  of_no_structure : structure_of all r.sym ≡ None → AncestorsGive cs ks all r []
  unfit_loci : (x : Structure) → structure_of all r.sym ≡ Some x → ¬ LociFit cs ks [] x.loci r.args → AncestorsGive cs ks all r []
  of_ancestors : (x : Structure) → structure_of all r.sym ≡ Some x → LociFit cs ks [] x.loci r.args → AncestorsGive cs ks all r (ancestors_at x r.args)
