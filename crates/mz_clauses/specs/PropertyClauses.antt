-- Clauses of properties. The variables are the loci; x and y are the two visible ones.
use Rattle.std.specs.Prelude.{ℕ, Bool, true, false, List, [], ◌∷◌, ◌++◌, length}
use Rattle.mz_logic.specs.Term as term
use Rattle.mz_logic.specs.Term.{Bound}
use Rattle.mz_logic.specs.Substitution.{substitute, value_at}
use Rattle.mz_logic.specs.declared.literal.Literal.{Literal}
use Rattle.mz_logic.specs.declared.literal.Literal.TheVariants.{Eq}
use Rattle.mz_core.specs.TypeSubstitution.{substitute_literal}
use Rattle.mz_core.specs.Guard.{guard_literals}
use Rattle.mz_core.specs.declared.soft_type.SoftType.{SoftType}
use Rattle.mz_core.specs.declared.property.Relation.{Relation}
use Rattle.mz_core.specs.declared.property.Operation.{Operation}
use Rattle.mz_core.specs.declared.property.UnaryOperation.{UnaryOperation}
use Rattle.mz_core.specs.declared.property.PropertyForm.{PropertyForm}
use Rattle.mz_core.specs.declared.property.PropertyForm.TheVariants.{Reflexivity, Irreflexivity, Symmetry, Asymmetry, Connectedness, Commutativity, Idempotence, Involutiveness, Projectivity, Sethood}
use Rattle.mz_ground.specs.ClauseFormula.{complement}
use Rattle.mz_ground.specs.declared.trigger.Trigger.TheVariants.{Term}
use Rattle.mz_items.specs.PropertyRows.{locus_type, locus_values}
use Rattle.mz_clauses.specs.declared.clause_groups.ClauseGroup.{ClauseGroup}
use Rattle.mz_clauses.specs.Guards.{loci_guards}
use Rattle.mz_clauses.specs.Groups.{one_group, group_if_any, literal_trigger}
use Rattle.mz_clauses.specs.SameTypes.{same_type}

-- the values of the loci with x and y exchanged
abbrev pub exchanged_values : ℕ → ℕ → ℕ → List term.Term
exchanged_values count left right = locus_values 0 left (Bound right) right (Bound left) count

-- R(y,x)
abbrev pub exchanged_relation : List SoftType → Relation → Literal
exchanged_relation loci r = substitute_literal 0 (value_at (exchanged_values (length loci) r.left r.right)) r.literal

-- F(y,x)
abbrev pub exchanged_operation : List SoftType → Operation → term.Term
exchanged_operation loci o = substitute 0 (value_at (exchanged_values (length loci) o.left o.right)) o.term

-- F(t)
abbrev pub operation_at : List SoftType → UnaryOperation → term.Term → term.Term
operation_at loci o t = substitute 0 (value_at (locus_values 0 o.place t o.place t (length loci))) o.term

-- the trigger is R(x,y); an equation is none
abbrev pub relation_groups : List SoftType → Relation → List Literal → Literal → List ClauseGroup
relation_groups loci r ps c = group_if_any (length loci) (literal_trigger r.literal) (loci_guards 0 loci ++ ps) (c ∷ [])

-- the trigger is F
abbrev pub operation_groups : List SoftType → term.Term → List Literal → Literal → List ClauseGroup
operation_groups loci t ps c = one_group (length loci) (Term t) (loci_guards 0 loci ++ ps) (c ∷ [])

-- where G and x = y hold, R(x,y)
abbrev pub reflexivity_groups : List SoftType → Relation → List ClauseGroup
reflexivity_groups loci r = relation_groups loci r (Eq true (Bound r.left) (Bound r.right) ∷ []) r.literal

-- where G and x = y hold, not R(x,y)
abbrev pub irreflexivity_groups : List SoftType → Relation → List ClauseGroup
irreflexivity_groups loci r = relation_groups loci r (Eq true (Bound r.left) (Bound r.right) ∷ []) (complement r.literal)

-- where G and R(x,y) hold, R(y,x)
abbrev pub symmetry_of_relation : List SoftType → Relation → List ClauseGroup
symmetry_of_relation loci r = relation_groups loci r (r.literal ∷ []) (exchanged_relation loci r)

-- where G and not R(x,y) hold, not R(y,x)
abbrev pub symmetry_of_negation : List SoftType → Relation → List ClauseGroup
symmetry_of_negation loci r = relation_groups loci r (complement r.literal ∷ []) (complement (exchanged_relation loci r))

-- x and y of a property have one type; of two types the second clause would say more than the property
abbrev pub if_same : Bool → List ClauseGroup → List ClauseGroup
if_same true gs = gs
if_same false gs = []

abbrev pub symmetry_groups : List SoftType → Relation → List ClauseGroup
symmetry_groups loci r =
    symmetry_of_relation loci r ++ if_same (same_type (locus_type loci r.left) (locus_type loci r.right)) (symmetry_of_negation loci r)

-- where G and R(x,y) hold, not R(y,x)
abbrev pub asymmetry_groups : List SoftType → Relation → List ClauseGroup
asymmetry_groups loci r = relation_groups loci r (r.literal ∷ []) (complement (exchanged_relation loci r))

-- where G and not R(x,y) hold, R(y,x)
abbrev pub connectedness_groups : List SoftType → Relation → List ClauseGroup
connectedness_groups loci r = relation_groups loci r (complement r.literal ∷ []) (exchanged_relation loci r)

-- where G holds, F(x,y) = F(y,x)
abbrev pub commutativity_groups : List SoftType → Operation → List ClauseGroup
commutativity_groups loci o = operation_groups loci o.term [] (Eq true o.term (exchanged_operation loci o))

-- where G and x = y hold, F(x,y) = x
abbrev pub idempotence_groups : List SoftType → Operation → List ClauseGroup
idempotence_groups loci o =
    operation_groups loci o.term (Eq true (Bound o.left) (Bound o.right) ∷ []) (Eq true o.term (Bound o.left))

-- where G and the guard of x's type at F(x) hold, F(F(x)) = t
abbrev pub iterated_groups : List SoftType → UnaryOperation → term.Term → List ClauseGroup
iterated_groups loci o t =
    operation_groups loci o.term (guard_literals (locus_type loci o.place) o.term) (Eq true (operation_at loci o o.term) t)

abbrev pub property_groups : List SoftType → PropertyForm → List ClauseGroup
property_groups loci (Reflexivity r) = reflexivity_groups loci r
property_groups loci (Irreflexivity r) = irreflexivity_groups loci r
property_groups loci (Symmetry r) = symmetry_groups loci r
property_groups loci (Asymmetry r) = asymmetry_groups loci r
property_groups loci (Connectedness r) = connectedness_groups loci r
property_groups loci (Commutativity o) = commutativity_groups loci o
property_groups loci (Idempotence o) = idempotence_groups loci o
property_groups loci (Involutiveness o) = iterated_groups loci o (Bound o.place)
property_groups loci (Projectivity o) = iterated_groups loci o o.term
property_groups loci (Sethood s) = []
