-- The statements of properties, under the loci. The variables x and y are new, of the types of their loci.
use Rattle.std.specs.Prelude.{ℕ, zero, suc, ◌+◌, List, [], ◌∷◌, ◌++◌, length, reverse, map, get_or, nat_eq, if◌then◌else◌}
use Rattle.mz_logic.specs.declared.sym.Sym.{Sym}
use Rattle.mz_logic.specs.Term.{Term, Bound}
use Rattle.mz_logic.specs.Substitution.{substitute, value_at}
use Rattle.mz_core.specs.Statement.{Statement, Eq, For}
use Rattle.mz_core.specs.StatementForms.{opposite, disjunction, implication}
use Rattle.mz_core.specs.TypeShift.{shift_type}
use Rattle.mz_core.specs.TypeSubstitution.{substitute_literal}
use Rattle.mz_core.specs.Guard.{guard_literals}
use Rattle.mz_core.specs.Hidden.{object_type}
use Rattle.mz_core.specs.Parts.{where_all}
use Rattle.mz_core.specs.TypeStatements.{literal_statement}
use Rattle.mz_core.specs.declared.soft_type.SoftType.{SoftType}
use Rattle.mz_core.specs.declared.property.Relation.{Relation}
use Rattle.mz_core.specs.declared.property.Operation.{Operation}
use Rattle.mz_core.specs.declared.property.UnaryOperation.{UnaryOperation}
use Rattle.mz_core.specs.declared.property.PropertyForm.{PropertyForm}
use Rattle.mz_core.specs.declared.property.PropertyForm.TheVariants.{Reflexivity, Irreflexivity, Symmetry, Asymmetry, Connectedness, Commutativity, Idempotence, Involutiveness, Projectivity, Sethood}
use Rattle.mz_items.specs.Loci.{mode_on}
use Rattle.mz_items.specs.SetTermRows.{sethood}

-- the type of the locus with the index, under all loci; `object` where there is no such locus
abbrev pub locus_type : List SoftType → ℕ → SoftType
locus_type loci index = shift_type 0 (index + 1) (get_or (reverse loci) index object_type)

-- of the loci's values, t at the index left, u at the index right, and elsewhere the locus itself
-- under `by` more binders
abbrev pub locus_value : ℕ → ℕ → Term → ℕ → Term → ℕ → Term
locus_value by left t right u index =
    if nat_eq index left then t else (if nat_eq index right then u else Bound (index + by))

-- the values of `count` loci, that of index 0 first
abbrev pub locus_values : ℕ → ℕ → Term → ℕ → Term → ℕ → List Term
locus_values by left t right u zero = []
locus_values by left t right u (suc count) = locus_values by left t right u count ++ locus_value by left t right u count ∷ []

-- R(t,u), under `by` variables
abbrev pub related : ℕ → ℕ → Relation → Term → Term → Statement
related count by r t u = literal_statement (substitute_literal 0 (value_at (locus_values by r.left t r.right u count)) r.literal)

-- F(t,u), under `by` variables
abbrev pub applied : ℕ → ℕ → Operation → Term → Term → Term
applied count by o t u = substitute 0 (value_at (locus_values by o.left t o.right u count)) o.term

-- F(t), under one variable
abbrev pub applied_to : ℕ → UnaryOperation → Term → Term
applied_to count o t = substitute 0 (value_at (locus_values 1 o.place t o.place t count)) o.term

-- for x holds s
abbrev pub for_one : List SoftType → ℕ → Statement → Statement
for_one loci place s = For (locus_type loci place) s

-- for x,y holds s
abbrev pub for_both : List SoftType → ℕ → ℕ → Statement → Statement
for_both loci left right s = For (locus_type loci left) (For (shift_type 0 1 (locus_type loci right)) s)

-- for x holds R(x,x)
abbrev pub reflexivity : List SoftType → Relation → Statement
reflexivity loci r = for_one loci r.left (related (length loci) 1 r (Bound 0) (Bound 0))

-- for x holds not R(x,x)
abbrev pub irreflexivity : List SoftType → Relation → Statement
irreflexivity loci r = for_one loci r.left (opposite (related (length loci) 1 r (Bound 0) (Bound 0)))

-- for x,y st R(x,y) holds R(y,x)
abbrev pub symmetry : List SoftType → Relation → Statement
symmetry loci r =
    for_both loci r.left r.right
    (implication (related (length loci) 2 r (Bound 1) (Bound 0)) (related (length loci) 2 r (Bound 0) (Bound 1)))

-- for x,y st R(x,y) holds not R(y,x)
abbrev pub asymmetry : List SoftType → Relation → Statement
asymmetry loci r =
    for_both loci r.left r.right
    (implication (related (length loci) 2 r (Bound 1) (Bound 0)) (opposite (related (length loci) 2 r (Bound 0) (Bound 1))))

-- for x,y holds R(x,y) or R(y,x)
abbrev pub connectedness : List SoftType → Relation → Statement
connectedness loci r =
    for_both loci r.left r.right
    (disjunction (related (length loci) 2 r (Bound 1) (Bound 0)) (related (length loci) 2 r (Bound 0) (Bound 1)))

-- for x,y holds F(x,y) = F(y,x)
abbrev pub commutativity : List SoftType → Operation → Statement
commutativity loci o =
    for_both loci o.left o.right
    (Eq (applied (length loci) 2 o (Bound 1) (Bound 0)) (applied (length loci) 2 o (Bound 0) (Bound 1)))

-- for x holds F(x,x) = x
abbrev pub idempotence : List SoftType → Operation → Statement
idempotence loci o = for_one loci o.left (Eq (applied (length loci) 1 o (Bound 0) (Bound 0)) (Bound 0))

-- the guard of the locus' type at F(x)
abbrev pub inner_guard : List SoftType → UnaryOperation → List Statement
inner_guard loci o = map literal_statement (guard_literals (shift_type 0 1 (locus_type loci o.place)) (applied_to (length loci) o (Bound 0)))

-- for x st T(F(x)) holds F(F(x)) = x
abbrev pub involutiveness : List SoftType → UnaryOperation → Statement
involutiveness loci o =
    for_one loci o.place
    (where_all (inner_guard loci o) (Eq (applied_to (length loci) o (applied_to (length loci) o (Bound 0))) (Bound 0)))

-- for x st T(F(x)) holds F(F(x)) = F(x)
abbrev pub projectivity : List SoftType → UnaryOperation → Statement
projectivity loci o =
    for_one loci o.place
    (where_all (inner_guard loci o) (Eq (applied_to (length loci) o (applied_to (length loci) o (Bound 0))) (applied_to (length loci) o (Bound 0))))

abbrev pub property_statement : List SoftType → PropertyForm → Statement
property_statement loci (Reflexivity r) = reflexivity loci r
property_statement loci (Irreflexivity r) = irreflexivity loci r
property_statement loci (Symmetry r) = symmetry loci r
property_statement loci (Asymmetry r) = asymmetry loci r
property_statement loci (Connectedness r) = connectedness loci r
property_statement loci (Commutativity o) = commutativity loci o
property_statement loci (Idempotence o) = idempotence loci o
property_statement loci (Involutiveness o) = involutiveness loci o
property_statement loci (Projectivity o) = projectivity loci o
property_statement loci (Sethood s) = sethood (mode_on loci s)
