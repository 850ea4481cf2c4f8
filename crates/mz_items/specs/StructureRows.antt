-- What a structure grants; it owes nothing. All stand under the loci.
use Rattle.std.specs.Prelude.{ℕ, zero, suc, List, [], ◌∷◌, ◌++◌, length, map, reverse}
use Rattle.mz_logic.specs.Term.{Term, Bound, App, terms_of}
use Rattle.mz_logic.specs.Substitution.{value_at}
use Rattle.mz_core.specs.Statement.{Statement, Eq, Atom, And, For}
use Rattle.mz_core.specs.StatementForms.{implication}
use Rattle.mz_core.specs.TypeSubstitution.{substitute_type}
use Rattle.mz_core.specs.Hidden.{object_type}
use Rattle.mz_core.specs.Parts.{conjunction}
use Rattle.mz_core.specs.TypeStatements.{is_of_type, is_of_type_inside}
use Rattle.mz_core.specs.declared.soft_type.SoftType.{SoftType}
use Rattle.mz_core.specs.declared.structure.Field.{Field}
use Rattle.mz_core.specs.declared.structure.Structure.{Structure}
use Rattle.mz_items.specs.Loci.{inward, variables}

-- S(t), under `by` variables
abbrev pub structure_atom : ℕ → Structure → Term → Statement
structure_atom by s t = Atom s.sym (variables by (length s.loci) ++ t ∷ [])

-- strict(t), under `by` variables
abbrev pub strict_atom : ℕ → Structure → Term → Statement
strict_atom by s t = Atom s.strict (variables by (length s.loci) ++ t ∷ [])

-- the aggregate of ts, under `by` variables
abbrev pub aggregate : ℕ → Structure → List Term → Term
aggregate by s ts = App s.aggregate (terms_of (variables by (length s.loci) ++ ts))

-- si(t)
abbrev pub selected : Term → Field → Term
selected t f = App f.selector (terms_of (t ∷ []))

-- what stands for the indices of a field's type where the fields have the values ts, given from the last
-- field to the first, the object is y, and the loci are ls, from the innermost outward
abbrev pub field_values : List Term → Term → List Term → List Term
field_values ts y ls = ts ++ y ∷ ls

-- `the sj` is sj(y), y being the only variable
abbrev pub selected_values : Structure → List Term
selected_values s = field_values (reverse (map (selected (Bound 0)) s.fields)) (Bound 0) (inward 1 (length s.loci))

-- `the sj` is zj, under `count` variables z, of which a is made
abbrev pub given_values : Structure → ℕ → Term → List Term
given_values s count a = field_values (inward 0 count) a (inward count (length s.loci))

-- Ti(si(y)), y being the only variable
abbrev pub field_fits : List Term → Field → Statement
field_fits values f = is_of_type (substitute_type 0 (value_at values) f.ty) (selected (Bound 0) f)

-- for y being object holds s
abbrev pub for_object : Statement → Statement
for_object s = For object_type s

-- (1) S(y) implies each ancestor's guard at y
abbrev pub grant_of_ancestors : Structure → Statement
grant_of_ancestors s = for_object (implication (structure_atom 1 s (Bound 0)) (conjunction (map is_of_type_inside s.ancestors)))

-- (2) S(y) implies Ti(si(y)) for each i
abbrev pub grant_of_fields : Structure → Statement
grant_of_fields s = for_object (implication (structure_atom 1 s (Bound 0)) (conjunction (map (field_fits (selected_values s)) s.fields)))

-- zi meets Ti, for each i
abbrev pub fit_each : List Term → List Field → List Term → List Statement
fit_each values [] zs = []
fit_each values (f ∷ fs) [] = []
fit_each values (f ∷ fs) (z ∷ zs) = is_of_type (substitute_type 0 (value_at values) f.ty) z ∷ fit_each values fs zs

-- si(a) = zi, for each i
abbrev pub select_each : Term → List Field → List Term → List Statement
select_each a [] zs = []
select_each a (f ∷ fs) [] = []
select_each a (f ∷ fs) (z ∷ zs) = Eq (selected a f) z ∷ select_each a fs zs

-- for z1,..,zn being object holds s
abbrev pub for_objects : ℕ → Statement → Statement
for_objects zero s = s
for_objects (suc count) s = for_object (for_objects count s)

-- (3) for z1 to zn, each of which meets its type, with a = the aggregate of these: S(a), strict(a), si(a) = zi
abbrev pub fitting : Structure → ℕ → List Term → Term → Statement
fitting s count zs a = conjunction (fit_each (given_values s count a) s.fields zs)

abbrev pub aggregate_has : Structure → ℕ → List Term → Term → Statement
aggregate_has s count zs a =
    conjunction (structure_atom count s a ∷ strict_atom count s a ∷ select_each a s.fields zs)

abbrev pub made_of : Structure → ℕ → List Term → Term → Statement
made_of s count zs a = implication (fitting s count zs a) (aggregate_has s count zs a)

abbrev pub grant_of_aggregate : Structure → Statement
grant_of_aggregate s =
    for_objects (length s.fields)
    (made_of s (length s.fields) (variables 0 (length s.fields)) (aggregate (length s.fields) s (variables 0 (length s.fields))))

-- (4) S(y) & strict(y) implies that y is the aggregate of s1(y) to sn(y)
abbrev pub grant_of_strict : Structure → Statement
grant_of_strict s =
    for_object
    (implication (And (structure_atom 1 s (Bound 0)) (strict_atom 1 s (Bound 0)))
    (Eq (Bound 0) (aggregate 1 s (map (selected (Bound 0)) s.fields))))

abbrev pub structure_grants : Structure → List Statement
structure_grants s = grant_of_ancestors s ∷ grant_of_fields s ∷ grant_of_aggregate s ∷ grant_of_strict s ∷ []
