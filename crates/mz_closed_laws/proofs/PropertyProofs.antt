-- Clauses of properties.
use Rattle.std.proofs.Common.{◌≡◌, ◌<◌, ◌≤◌, ℕ, ◌+◌, List, [], ◌∷◌, ◌++◌, length, refl, ◌∙◌, arith, Bool, true, false}
use Rattle.std.specs.Prelude.{nat_lt}
use Rattle.std.specs.List.{list_all}
use Rattle.std.proofs.lemmas.Bool.{ltb-true, and_parts, and_from}
use Rattle.mz_logic.specs.Term as term
use Rattle.mz_logic.specs.Term.{Bound}
use Rattle.mz_logic.specs.declared.literal.Literal.{Literal}
use Rattle.mz_logic.specs.declared.literal.Literal.TheVariants.{Eq}
use Rattle.mz_core.specs.Guard.{guard_literals}
use Rattle.mz_core.specs.Closed.{term_under, literal_under, loci_closed}
use Rattle.mz_core.specs.declared.soft_type.SoftType.{SoftType}
use Rattle.mz_core.specs.declared.property.Relation.{Relation}
use Rattle.mz_core.specs.declared.property.Operation.{Operation}
use Rattle.mz_core.specs.declared.property.UnaryOperation.{UnaryOperation}
use Rattle.mz_core.specs.declared.property.PropertyForm.{PropertyForm}
use Rattle.mz_core.specs.declared.property.PropertyForm.TheVariants.{Reflexivity, Irreflexivity, Symmetry, Asymmetry, Connectedness, Commutativity, Idempotence, Involutiveness, Projectivity, Sethood}
use Rattle.mz_core.proofs.AllLemmas.{all-append}
use Rattle.mz_ground.specs.ClauseFormula.{complement}
use Rattle.mz_ground.specs.declared.trigger.Trigger.TheVariants.{Term}
use Rattle.mz_items.specs.Closed.{relation_under, operation_under, unary_operation_under, property_form_under}
use Rattle.mz_items.specs.PropertyRows.{locus_type, locus_values}
use Rattle.mz_items.proofs.ItemLemmas.{three, filled_under}
use Rattle.mz_clauses.specs.declared.clause_groups.ClauseGroup.{ClauseGroup}
use Rattle.mz_clauses.specs.Guards.{loci_guards}
use Rattle.mz_clauses.specs.Groups.{literal_trigger}
use Rattle.mz_clauses.specs.SameTypes.{same_type}
use Rattle.mz_clauses.specs.PropertyClauses.{exchanged_values, exchanged_relation, exchanged_operation, operation_at, relation_groups, operation_groups, symmetry_of_relation, symmetry_of_negation, if_same, iterated_groups, property_groups}
use Rattle.mz_closed_laws.proofs.LiteralLemmas.{guards_alone_under, guard_under, complement_under, literal_filled_under}
use Rattle.mz_closed_laws.proofs.GroupLemmas.{group_closed, one_closed, if_any_closed, literal_trigger_at}
use Rattle.mz_closed_laws.proofs.ValueLemmas.{locus_type_under, locus_values_under, length-locus_values}

-- the parts of relations and operations: x and y are loci
relation_parts : (n : ℕ) (r : Relation) → relation_under n r ≡ true → (literal_under n r.literal ≡ true) × (term_under n (Bound r.left) ≡ true) × (term_under n (Bound r.right) ≡ true)
relation_parts n r h = three (literal_under n r.literal) (nat_lt r.left n) (nat_lt r.right n) h

operation_parts : (n : ℕ) (o : Operation) → operation_under n o ≡ true → (term_under n o.term ≡ true) × (term_under n (Bound o.left) ≡ true) × (term_under n (Bound o.right) ≡ true)
operation_parts n o h = three (term_under n o.term) (nat_lt o.left n) (nat_lt o.right n) h

itself : (n : ℕ) → n ≤ n
itself n = omega arith

exchanged_values_under : (n left right : ℕ) → term_under n (Bound left) ≡ true → term_under n (Bound right) ≡ true → list_all (term_under n) (exchanged_values n left right) ≡ true
exchanged_values_under n left right h k = locus_values_under n left right n (Bound right) (Bound left) (itself n) k h

exchanged_under : (loci : List SoftType) (r : Relation) → relation_under (length loci) r ≡ true → literal_under (length loci) (exchanged_relation loci r) ≡ true
exchanged_under loci r h =
    let p : (literal_under (length loci) r.literal ≡ true) × (term_under (length loci) (Bound r.left) ≡ true) × (term_under (length loci) (Bound r.right) ≡ true) = relation_parts (length loci) r h in
    literal_filled_under (length loci) (exchanged_values (length loci) r.left r.right) (length loci) r.literal (length-locus_values r.left r.right (length loci) (Bound r.right) (Bound r.left)) (exchanged_values_under (length loci) r.left r.right p.1 p.2) p.0

exchanged_term_under : (loci : List SoftType) (o : Operation) → operation_under (length loci) o ≡ true → term_under (length loci) (exchanged_operation loci o) ≡ true
exchanged_term_under loci o h =
    let p : (term_under (length loci) o.term ≡ true) × (term_under (length loci) (Bound o.left) ≡ true) × (term_under (length loci) (Bound o.right) ≡ true) = operation_parts (length loci) o h in
    filled_under (length loci) (exchanged_values (length loci) o.left o.right) (length loci) o.term (length-locus_values o.left o.right (length loci) (Bound o.right) (Bound o.left)) (exchanged_values_under (length loci) o.left o.right p.1 p.2) p.0

operation_at_under : (loci : List SoftType) (o : UnaryOperation) (t : term.Term) → term_under (length loci) o.term ≡ true → term_under (length loci) t ≡ true → term_under (length loci) (operation_at loci o t) ≡ true
operation_at_under loci o t h k =
    filled_under (length loci) (locus_values 0 o.place t o.place t (length loci)) (length loci) o.term (length-locus_values o.place o.place (length loci) t t) (locus_values_under (length loci) o.place o.place (length loci) t t (itself (length loci)) k k) h

-- groups of relations and operations
relation_closed : (loci : List SoftType) (r : Relation) (ps : List Literal) (c : Literal) → loci_closed loci ≡ true → relation_under (length loci) r ≡ true → list_all (literal_under (length loci)) ps ≡ true → literal_under (length loci) c ≡ true → list_all group_closed (relation_groups loci r ps c) ≡ true
relation_closed loci r ps c h hr hp hc =
    if_any_closed (length loci) (literal_trigger r.literal) (loci_guards 0 loci ++ ps) (c ∷ [])
    (literal_trigger_at (length loci) r.literal (relation_parts (length loci) r hr).0)
    (all-append (literal_under (length loci)) (loci_guards 0 loci) ps (guards_alone_under loci h) hp)
    (and_from _ _ hc refl)

operation_closed : (loci : List SoftType) (t : term.Term) (ps : List Literal) (c : Literal) → loci_closed loci ≡ true → term_under (length loci) t ≡ true → list_all (literal_under (length loci)) ps ≡ true → literal_under (length loci) c ≡ true → list_all group_closed (operation_groups loci t ps c) ≡ true
operation_closed loci t ps c h ht hp hc =
    one_closed (length loci) (Term t) (loci_guards 0 loci ++ ps) (c ∷ []) ht
    (all-append (literal_under (length loci)) (loci_guards 0 loci) ps (guards_alone_under loci h) hp)
    (and_from _ _ hc refl)

-- x = y
equal_under : (n left right : ℕ) → term_under n (Bound left) ≡ true → term_under n (Bound right) ≡ true → list_all (literal_under n) (Eq true (Bound left) (Bound right) ∷ []) ≡ true
equal_under n left right h k = and_from _ _ (and_from _ _ h k) refl

opposite_under : (n : ℕ) (l : Literal) → literal_under n l ≡ true → literal_under n (complement l) ≡ true
opposite_under n l h = complement_under n l ∙ h

same_closed : (b : Bool) (gs : List ClauseGroup) → list_all group_closed gs ≡ true → list_all group_closed (if_same b gs) ≡ true
same_closed true gs h = h
same_closed false gs h = refl

symmetry_closed : (loci : List SoftType) (r : Relation) → loci_closed loci ≡ true → relation_under (length loci) r ≡ true → list_all group_closed (property_groups loci (Symmetry r)) ≡ true
symmetry_closed loci r c h =
    let it : literal_under (length loci) r.literal ≡ true = (relation_parts (length loci) r h).0 in
    let other : literal_under (length loci) (exchanged_relation loci r) ≡ true = exchanged_under loci r h in
    all-append group_closed (symmetry_of_relation loci r) (if_same (same_type (locus_type loci r.left) (locus_type loci r.right)) (symmetry_of_negation loci r))
    (relation_closed loci r (r.literal ∷ []) (exchanged_relation loci r) c h (and_from _ _ it refl) other)
    (same_closed (same_type (locus_type loci r.left) (locus_type loci r.right)) (symmetry_of_negation loci r)
    (relation_closed loci r (complement r.literal ∷ []) (complement (exchanged_relation loci r)) c h (and_from _ _ (opposite_under (length loci) r.literal it) refl) (opposite_under (length loci) (exchanged_relation loci r) other)))

iterated_closed : (loci : List SoftType) (o : UnaryOperation) (t : term.Term) → loci_closed loci ≡ true → unary_operation_under (length loci) o ≡ true → term_under (length loci) t ≡ true → list_all group_closed (iterated_groups loci o t) ≡ true
iterated_closed loci o t c h k =
    let both : (term_under (length loci) o.term ≡ true) × (nat_lt o.place (length loci) ≡ true) = and_parts (term_under (length loci) o.term) (nat_lt o.place (length loci)) h in
    let lt : o.place < length loci = ltb-true o.place (length loci) both.1 in
    operation_closed loci o.term (guard_literals (locus_type loci o.place) o.term) (Eq true (operation_at loci o o.term) t) c both.0
    (guard_under (length loci) (locus_type loci o.place) o.term (locus_type_under loci o.place c lt) both.0)
    (and_from _ _ (operation_at_under loci o o.term both.0 both.0) k)

pub property_closed : (loci : List SoftType) (p : PropertyForm) → loci_closed loci ≡ true → property_form_under (length loci) p ≡ true → list_all group_closed (property_groups loci p) ≡ true
property_closed loci (Reflexivity r) c h =
    let p : (literal_under (length loci) r.literal ≡ true) × (term_under (length loci) (Bound r.left) ≡ true) × (term_under (length loci) (Bound r.right) ≡ true) = relation_parts (length loci) r h in
    relation_closed loci r (Eq true (Bound r.left) (Bound r.right) ∷ []) r.literal c h (equal_under (length loci) r.left r.right p.1 p.2) p.0
property_closed loci (Irreflexivity r) c h =
    let p : (literal_under (length loci) r.literal ≡ true) × (term_under (length loci) (Bound r.left) ≡ true) × (term_under (length loci) (Bound r.right) ≡ true) = relation_parts (length loci) r h in
    relation_closed loci r (Eq true (Bound r.left) (Bound r.right) ∷ []) (complement r.literal) c h (equal_under (length loci) r.left r.right p.1 p.2) (opposite_under (length loci) r.literal p.0)
property_closed loci (Symmetry r) c h = symmetry_closed loci r c h
property_closed loci (Asymmetry r) c h =
    relation_closed loci r (r.literal ∷ []) (complement (exchanged_relation loci r)) c h (and_from _ _ (relation_parts (length loci) r h).0 refl) (opposite_under (length loci) (exchanged_relation loci r) (exchanged_under loci r h))
property_closed loci (Connectedness r) c h =
    relation_closed loci r (complement r.literal ∷ []) (exchanged_relation loci r) c h (and_from _ _ (opposite_under (length loci) r.literal (relation_parts (length loci) r h).0) refl) (exchanged_under loci r h)
property_closed loci (Commutativity o) c h =
    let p : (term_under (length loci) o.term ≡ true) × (term_under (length loci) (Bound o.left) ≡ true) × (term_under (length loci) (Bound o.right) ≡ true) = operation_parts (length loci) o h in
    operation_closed loci o.term [] (Eq true o.term (exchanged_operation loci o)) c p.0 refl (and_from _ _ p.0 (exchanged_term_under loci o h))
property_closed loci (Idempotence o) c h =
    let p : (term_under (length loci) o.term ≡ true) × (term_under (length loci) (Bound o.left) ≡ true) × (term_under (length loci) (Bound o.right) ≡ true) = operation_parts (length loci) o h in
    operation_closed loci o.term (Eq true (Bound o.left) (Bound o.right) ∷ []) (Eq true o.term (Bound o.left)) c p.0 (equal_under (length loci) o.left o.right p.1 p.2) (and_from _ _ p.0 p.1)
property_closed loci (Involutiveness o) c h =
    iterated_closed loci o (Bound o.place) c h (and_parts (term_under (length loci) o.term) (nat_lt o.place (length loci)) h).1
property_closed loci (Projectivity o) c h =
    iterated_closed loci o o.term c h (and_parts (term_under (length loci) o.term) (nat_lt o.place (length loci)) h).0
property_closed loci (Sethood s) c h = refl
