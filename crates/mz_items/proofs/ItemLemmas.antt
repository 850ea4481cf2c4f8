-- What an item without constants and loose indices owes and grants.
use Rattle.std.proofs.Common.{◌≡◌, ◌<◌, ◌≤◌, ℕ, zero, suc, ◌+◌, ◌-◌, List, [], ◌∷◌, ◌++◌, map, length, reverse, get_or, refl, ap, sym, ◌∙◌, subst, arith, Bool, true, false}
use Rattle.std.specs.Prelude.{◌&&◌, nat_lt, nat_eq, if◌then◌else◌, flat_map, Option, Some, None}
use Rattle.std.specs.List.{list_all}
use Rattle.std.proofs.lemmas.Bool.{ltb-true, lt-ltb, and_parts, and_from}
use Rattle.std.proofs.lemmas.List.{get_or-reverse, length-reverse, length-append, length-map}
use Rattle.mz_logic.specs.declared.sym.Sym.{Sym}
use Rattle.mz_logic.specs.declared.sequent.Sequent.{Sequent}
use Rattle.mz_logic.specs.Term.{Term, Bound, App, terms_of}
use Rattle.mz_logic.specs.declared.literal.Literal.{Literal}
use Rattle.mz_logic.specs.declared.literal.Literal.TheVariants as literal
use Rattle.mz_logic.specs.Substitution.{shift, substitute, value_at}
use Rattle.mz_core.specs.Statement.{Statement, Truth, Eq, Atom, Not, And, For}
use Rattle.mz_core.specs.StatementForms.{opposite, disjunction, implication, equivalence, for_some}
use Rattle.mz_core.specs.TypeShift.{shift_adjective, shift_type, shift_statement}
use Rattle.mz_core.specs.TypeSubstitution.{substitute_type, substitute_literal}
use Rattle.mz_core.specs.Guard.{guard_literals, adjective_literal}
use Rattle.mz_core.specs.Parts.{conjunction, where_all}
use Rattle.mz_core.specs.TypeStatements.{literal_statement, is_of_type, is_of_type_inside}
use Rattle.mz_core.specs.TypedSequent.{typed_sequent, erased_sequent}
use Rattle.mz_core.specs.Erasure.{erase}
use Rattle.mz_core.specs.Hidden.{object_type, set_type, is_in}
use Rattle.mz_core.specs.Closed.{term_under, formula_under, literal_under, adjective_under, type_under, statement_under, loci_under, loci_closed}
use Rattle.mz_core.specs.declared.typed_sequent.TypedSequent.{TypedSequent}
use Rattle.mz_core.specs.declared.adjective.Adjective.{Adjective}
use Rattle.mz_core.specs.declared.soft_type.SoftType.{SoftType}
use Rattle.mz_core.specs.declared.property.Relation.{Relation}
use Rattle.mz_core.specs.declared.property.Operation.{Operation}
use Rattle.mz_core.specs.declared.property.UnaryOperation.{UnaryOperation}
use Rattle.mz_core.specs.declared.property.PropertyForm.{PropertyForm}
use Rattle.mz_core.specs.declared.property.PropertyForm.TheVariants as form
use Rattle.mz_core.proofs.TermMaps.{literal_with, adjective_with}
use Rattle.mz_core.proofs.UnderTerms.{term_under-shift, term_under-more, term_under-substitute, args_under-list}
use Rattle.mz_core.proofs.AllLemmas.{all-map, all-append, all-alone, adjective_all-with, type_all-with, literal_all-with, implication_all, disjunction_all, equivalence_all, for_some_all, opposite_all, conjunction_all, where_all_all, adjective_literal_all, guard_literals_all, literal_statement_all, literal_statements_all, is_of_type_all, is_of_type_inside_all}
use Rattle.mz_items.specs.Loci.{over, inward, variables, term_on, predicate_on, attribute_on, mode_on}
use Rattle.mz_items.specs.Closed.{relation_under, operation_under, unary_operation_under, property_form_under}
use Rattle.mz_items.specs.PropertyRows.{locus_type, locus_value, locus_values, related, applied, applied_to, for_one, for_both, inner_guard, property_statement}
use Rattle.mz_items.specs.SetTermRows.{sethood}
use Rattle.mz_items.proofs.RowLemmas.{under_persists, shift_type_under, mode_on_under}

pub three : (a b c : Bool) → (a && b && c) ≡ true → (a ≡ true) × (b ≡ true) × (c ≡ true)
three a b c h =
    let outer : ((a && b) ≡ true) × (c ≡ true) = and_parts (a && b) c h in
    let inner : (a ≡ true) × (b ≡ true) = and_parts a b outer.0 in
    (inner.0, inner.1, outer.1)

-- types of loci
loci_at : (n : ℕ) (loci : List SoftType) (k : ℕ) (d : SoftType) → loci_under n loci ≡ true → k < length loci → type_under (n + k) (get_or loci k d) ≡ true
loci_at n [] k d h lt = absurd (omega arith)
loci_at n (ty ∷ tys) zero d h lt =
    let e : n ≡ n + 0 = omega arith in
    let Q : ℕ → Type 0 = λ m. type_under m ty ≡ true in
    subst Q e (and_parts (type_under n ty) (loci_under (n + 1) tys) h).0
loci_at n (ty ∷ tys) (suc k) d h lt =
    let e : n + 1 + k ≡ n + suc k = omega arith in
    let Q : ℕ → Type 0 = λ m. type_under m (get_or tys k d) ≡ true in
    subst Q e (loci_at (n + 1) tys k d (and_parts (type_under n ty) (loci_under (n + 1) tys) h).1 (omega arith))

locus_type_under : (loci : List SoftType) (k : ℕ) → loci_closed loci ≡ true → k < length loci → type_under (length loci) (locus_type loci k) ≡ true
locus_type_under loci k h lt =
    let place : ℕ = length loci - 1 - k in
    let within : length loci - 1 - k < length loci = omega arith in
    let sum : 0 + (length loci - 1 - k) + (k + 1) ≡ length loci = omega arith in
    let at : type_under (0 + (length loci - 1 - k)) (get_or loci (length loci - 1 - k) object_type) ≡ true = loci_at 0 loci (length loci - 1 - k) object_type h within in
    let raised : type_under (0 + (length loci - 1 - k) + (k + 1)) (shift_type 0 (k + 1) (get_or loci (length loci - 1 - k) object_type)) ≡ true = shift_type_under 0 (k + 1) (0 + (length loci - 1 - k)) (get_or loci (length loci - 1 - k) object_type) at in
    let Q : ℕ → Type 0 = λ m. type_under m (shift_type 0 (k + 1) (get_or loci (length loci - 1 - k) object_type)) ≡ true in
    ap (λ (ty : SoftType). type_under (length loci) (shift_type 0 (k + 1) ty)) (get_or-reverse loci k object_type lt) ∙ subst Q sum raised

-- values of loci
choice_under : (n : ℕ) (b c : Bool) (t u v : Term) → term_under n t ≡ true → term_under n u ≡ true → term_under n v ≡ true → term_under n (if b then t else (if c then u else v)) ≡ true
choice_under n true c t u v ht hu hv = ht
choice_under n false true t u v ht hu hv = hu
choice_under n false false t u v ht hu hv = hv

locus_values_under : (n by left right count : ℕ) (t u : Term) → count + by ≤ n → term_under n t ≡ true → term_under n u ≡ true → list_all (term_under n) (locus_values by left t right u count) ≡ true
locus_values_under n by left right zero t u le ht hu = refl
locus_values_under n by left right (suc count) t u le ht hu =
    all-append (term_under n) (locus_values by left t right u count) (locus_value by left t right u count ∷ [])
    (locus_values_under n by left right count t u (omega arith) ht hu)
    (all-alone (term_under n) (locus_value by left t right u count) (choice_under n (nat_eq count left) (nat_eq count right) t u (Bound (count + by)) ht hu (lt-ltb (count + by) n (omega arith))))

length-locus_values : (by left right count : ℕ) (t u : Term) → length (locus_values by left t right u count) ≡ count
length-locus_values by left right zero t u = refl
length-locus_values by left right (suc count) t u =
    let e : length (locus_values by left t right u count ++ locus_value by left t right u count ∷ []) ≡ length (locus_values by left t right u count) + 1 = length-append (locus_values by left t right u count) (locus_value by left t right u count ∷ []) in
    let ih : length (locus_values by left t right u count) ≡ count = length-locus_values by left right count t u in
    omega (arith, e, ih)

values_within : (m : ℕ) (ts : List Term) → list_all (term_under m) ts ≡ true → (k : ℕ) → k < length ts → term_under m (value_at ts k) ≡ true
values_within m [] h k lt = absurd (omega arith)
values_within m (t ∷ ts) h zero lt = (and_parts (term_under m t) (list_all (term_under m) ts) h).0
values_within m (t ∷ ts) h (suc k) lt = values_within m ts (and_parts (term_under m t) (list_all (term_under m) ts) h).1 k (omega arith)

-- a term with a value for each of its indices
pub filled_under : (m : ℕ) (vs : List Term) (n : ℕ) (t : Term) → length vs ≡ n → list_all (term_under m) vs ≡ true → term_under n t ≡ true → term_under m (substitute 0 (value_at vs) t) ≡ true
filled_under m vs n t e hv h =
    let before : n ≡ 0 + length vs = omega (arith, e) in
    let after : 0 + m ≡ m = omega arith in
    let P : ℕ → Type 0 = λ k. term_under k t ≡ true in
    let Q : ℕ → Type 0 = λ k. term_under k (substitute 0 (value_at vs) t) ≡ true in
    subst Q after (term_under-substitute 0 m (length vs) (value_at vs) t (values_within m vs hv) (subst P before h))

literal_filled_under : (m : ℕ) (vs : List Term) (n : ℕ) (l : Literal) → length vs ≡ n → list_all (term_under m) vs ≡ true → literal_under n l ≡ true → literal_under m (substitute_literal 0 (value_at vs) l) ≡ true
literal_filled_under m vs n (literal.Atom positive s ts) e hv h =
    all-map (term_under n) (term_under m) (substitute 0 (value_at vs)) ts (λ t k. filled_under m vs n t e hv k) h
literal_filled_under m vs n (literal.Eq positive t u) e hv h =
    let both : (term_under n t ≡ true) × (term_under n u ≡ true) = and_parts (term_under n t) (term_under n u) h in
    and_from _ _ (filled_under m vs n t e hv both.0) (filled_under m vs n u e hv both.1)

pub type_filled_under : (m : ℕ) (vs : List Term) (n : ℕ) (ty : SoftType) → length vs ≡ n → list_all (term_under m) vs ≡ true → type_under n ty ≡ true → type_under m (substitute_type 0 (value_at vs) ty) ≡ true
type_filled_under m vs n ty e hv h = type_all-with term_under term_under n m (substitute 0 (value_at vs)) ty (λ t k. filled_under m vs n t e hv k) h

related_under : (n by : ℕ) (r : Relation) (t u : Term) → literal_under n r.literal ≡ true → term_under (n + by) t ≡ true → term_under (n + by) u ≡ true → statement_under (n + by) (related n by r t u) ≡ true
related_under n by r t u h ht hu =
    let le : n + by ≤ n + by = omega arith in
    literal_statement_all term_under (n + by) (substitute_literal 0 (value_at (locus_values by r.left t r.right u n)) r.literal)
    (literal_filled_under (n + by) (locus_values by r.left t r.right u n) n r.literal (length-locus_values by r.left r.right n t u) (locus_values_under (n + by) by r.left r.right n t u le ht hu) h)

applied_under : (n by : ℕ) (o : Operation) (t u : Term) → term_under n o.term ≡ true → term_under (n + by) t ≡ true → term_under (n + by) u ≡ true → term_under (n + by) (applied n by o t u) ≡ true
applied_under n by o t u h ht hu =
    let le : n + by ≤ n + by = omega arith in
    filled_under (n + by) (locus_values by o.left t o.right u n) n o.term (length-locus_values by o.left o.right n t u) (locus_values_under (n + by) by o.left o.right n t u le ht hu) h

applied_to_under : (n : ℕ) (o : UnaryOperation) (t : Term) → term_under n o.term ≡ true → term_under (n + 1) t ≡ true → term_under (n + 1) (applied_to n o t) ≡ true
applied_to_under n o t h ht =
    let le : n + 1 ≤ n + 1 = omega arith in
    filled_under (n + 1) (locus_values 1 o.place t o.place t n) n o.term (length-locus_values 1 o.place o.place n t t) (locus_values_under (n + 1) 1 o.place o.place n t t le ht ht) h

index_0 : (n : ℕ) → term_under (n + 1) (Bound 0) ≡ true
index_0 n = let lt : 0 < n + 1 = omega arith in lt-ltb 0 (n + 1) lt

index_0_of_2 : (n : ℕ) → term_under (n + 2) (Bound 0) ≡ true
index_0_of_2 n = let lt : 0 < n + 2 = omega arith in lt-ltb 0 (n + 2) lt

index_1_of_2 : (n : ℕ) → term_under (n + 2) (Bound 1) ≡ true
index_1_of_2 n = let lt : 1 < n + 2 = omega arith in lt-ltb 1 (n + 2) lt

for_one_under : (loci : List SoftType) (place : ℕ) (s : Statement) → loci_closed loci ≡ true → place < length loci → statement_under (length loci + 1) s ≡ true → statement_under (length loci) (for_one loci place s) ≡ true
for_one_under loci place s h lt k = and_from _ _ (locus_type_under loci place h lt) k

for_both_under : (loci : List SoftType) (left right : ℕ) (s : Statement) → loci_closed loci ≡ true → left < length loci → right < length loci → statement_under (length loci + 2) s ≡ true → statement_under (length loci) (for_both loci left right s) ≡ true
for_both_under loci left right s h lt lu k =
    let e : length loci + 2 ≡ length loci + 1 + 1 = omega arith in
    let Q : ℕ → Type 0 = λ m. statement_under m s ≡ true in
    and_from _ _ (locus_type_under loci left h lt) (and_from _ _ (shift_type_under 0 1 (length loci) (locus_type loci right) (locus_type_under loci right h lu)) (subst Q e k))

-- rows of relations, operations and unary operations
relation_parts : (n : ℕ) (r : Relation) → relation_under n r ≡ true → (literal_under n r.literal ≡ true) × (r.left < n) × (r.right < n)
relation_parts n r h =
    let t : (literal_under n r.literal ≡ true) × (nat_lt r.left n ≡ true) × (nat_lt r.right n ≡ true) = three (literal_under n r.literal) (nat_lt r.left n) (nat_lt r.right n) h in
    (t.0, ltb-true r.left n t.1, ltb-true r.right n t.2)

operation_parts : (n : ℕ) (o : Operation) → operation_under n o ≡ true → (term_under n o.term ≡ true) × (o.left < n) × (o.right < n)
operation_parts n o h =
    let t : (term_under n o.term ≡ true) × (nat_lt o.left n ≡ true) × (nat_lt o.right n ≡ true) = three (term_under n o.term) (nat_lt o.left n) (nat_lt o.right n) h in
    (t.0, ltb-true o.left n t.1, ltb-true o.right n t.2)

once : (n : ℕ) (r : Relation) → relation_under n r ≡ true → statement_under (n + 1) (related n 1 r (Bound 0) (Bound 0)) ≡ true
once n r h = related_under n 1 r (Bound 0) (Bound 0) (relation_parts n r h).0 (index_0 n) (index_0 n)

forth : (n : ℕ) (r : Relation) → relation_under n r ≡ true → statement_under (n + 2) (related n 2 r (Bound 1) (Bound 0)) ≡ true
forth n r h = related_under n 2 r (Bound 1) (Bound 0) (relation_parts n r h).0 (index_1_of_2 n) (index_0_of_2 n)

back : (n : ℕ) (r : Relation) → relation_under n r ≡ true → statement_under (n + 2) (related n 2 r (Bound 0) (Bound 1)) ≡ true
back n r h = related_under n 2 r (Bound 0) (Bound 1) (relation_parts n r h).0 (index_0_of_2 n) (index_1_of_2 n)

of_one : (loci : List SoftType) (r : Relation) (s : Statement) → loci_closed loci ≡ true → relation_under (length loci) r ≡ true → statement_under (length loci + 1) s ≡ true → statement_under (length loci) (for_one loci r.left s) ≡ true
of_one loci r s c h k = for_one_under loci r.left s c (relation_parts (length loci) r h).1 k

of_two : (loci : List SoftType) (r : Relation) (s : Statement) → loci_closed loci ≡ true → relation_under (length loci) r ≡ true → statement_under (length loci + 2) s ≡ true → statement_under (length loci) (for_both loci r.left r.right s) ≡ true
of_two loci r s c h k = for_both_under loci r.left r.right s c (relation_parts (length loci) r h).1 (relation_parts (length loci) r h).2 k

inner_guard_under : (loci : List SoftType) (o : UnaryOperation) → loci_closed loci ≡ true → term_under (length loci) o.term ≡ true → o.place < length loci → list_all (statement_under (length loci + 1)) (inner_guard loci o) ≡ true
inner_guard_under loci o c h lt =
    literal_statements_all term_under (length loci + 1) (guard_literals (shift_type 0 1 (locus_type loci o.place)) (applied_to (length loci) o (Bound 0)))
    (guard_literals_all term_under (length loci + 1) (shift_type 0 1 (locus_type loci o.place)) (applied_to (length loci) o (Bound 0))
    (shift_type_under 0 1 (length loci) (locus_type loci o.place) (locus_type_under loci o.place c lt))
    (applied_to_under (length loci) o (Bound 0) h (index_0 (length loci))))

unary_under : (loci : List SoftType) (o : UnaryOperation) (t : Term) → loci_closed loci ≡ true → unary_operation_under (length loci) o ≡ true → term_under (length loci + 1) t ≡ true → statement_under (length loci) (for_one loci o.place (where_all (inner_guard loci o) (Eq (applied_to (length loci) o (applied_to (length loci) o (Bound 0))) t))) ≡ true
unary_under loci o t c h k =
    let both : (term_under (length loci) o.term ≡ true) × (nat_lt o.place (length loci) ≡ true) = and_parts (term_under (length loci) o.term) (nat_lt o.place (length loci)) h in
    let lt : o.place < length loci = ltb-true o.place (length loci) both.1 in
    let once_applied : term_under (length loci + 1) (applied_to (length loci) o (Bound 0)) ≡ true = applied_to_under (length loci) o (Bound 0) both.0 (index_0 (length loci)) in
    for_one_under loci o.place (where_all (inner_guard loci o) (Eq (applied_to (length loci) o (applied_to (length loci) o (Bound 0))) t)) c lt
    (where_all_all term_under (length loci + 1) (inner_guard loci o) (Eq (applied_to (length loci) o (applied_to (length loci) o (Bound 0))) t)
    (inner_guard_under loci o c both.0 lt)
    (and_from _ _ (applied_to_under (length loci) o (applied_to (length loci) o (Bound 0)) both.0 once_applied) k))

plain_under : (n : ℕ) → type_under n set_type ≡ true
plain_under n = refl

pub sethood_under : (n : ℕ) (mode : SoftType) → type_under n mode ≡ true → statement_under n (sethood mode) ≡ true
sethood_under n mode h =
    let e : n + 2 ≡ n + 1 + 1 = omega arith in
    let Q : ℕ → Type 0 = λ m. statement_under m (is_in (Bound 0) (Bound 1)) ≡ true in
    let inside : statement_under (n + 2) (is_in (Bound 0) (Bound 1)) ≡ true = and_from _ _ (index_0_of_2 n) (and_from _ _ (index_1_of_2 n) refl) in
    for_some_all term_under n set_type (For (shift_type 0 1 mode) (is_in (Bound 0) (Bound 1))) (plain_under n) (and_from _ _ (shift_type_under 0 1 n mode h) (subst Q e inside))

pub property_under : (loci : List SoftType) (p : PropertyForm) → loci_closed loci ≡ true → property_form_under (length loci) p ≡ true → statement_under (length loci) (property_statement loci p) ≡ true
property_under loci (form.Reflexivity r) c h = of_one loci r (related (length loci) 1 r (Bound 0) (Bound 0)) c h (once (length loci) r h)
property_under loci (form.Irreflexivity r) c h =
    of_one loci r (opposite (related (length loci) 1 r (Bound 0) (Bound 0))) c h (opposite_all term_under (length loci + 1) (related (length loci) 1 r (Bound 0) (Bound 0)) ∙ once (length loci) r h)
property_under loci (form.Symmetry r) c h =
    of_two loci r (implication (related (length loci) 2 r (Bound 1) (Bound 0)) (related (length loci) 2 r (Bound 0) (Bound 1))) c h
    (implication_all term_under (length loci + 2) (related (length loci) 2 r (Bound 1) (Bound 0)) (related (length loci) 2 r (Bound 0) (Bound 1)) (forth (length loci) r h) (back (length loci) r h))
property_under loci (form.Asymmetry r) c h =
    of_two loci r (implication (related (length loci) 2 r (Bound 1) (Bound 0)) (opposite (related (length loci) 2 r (Bound 0) (Bound 1)))) c h
    (implication_all term_under (length loci + 2) (related (length loci) 2 r (Bound 1) (Bound 0)) (opposite (related (length loci) 2 r (Bound 0) (Bound 1))) (forth (length loci) r h)
    (opposite_all term_under (length loci + 2) (related (length loci) 2 r (Bound 0) (Bound 1)) ∙ back (length loci) r h))
property_under loci (form.Connectedness r) c h =
    of_two loci r (disjunction (related (length loci) 2 r (Bound 1) (Bound 0)) (related (length loci) 2 r (Bound 0) (Bound 1))) c h
    (disjunction_all term_under (length loci + 2) (related (length loci) 2 r (Bound 1) (Bound 0)) (related (length loci) 2 r (Bound 0) (Bound 1)) (forth (length loci) r h) (back (length loci) r h))
property_under loci (form.Commutativity o) c h =
    let ps : (term_under (length loci) o.term ≡ true) × (o.left < length loci) × (o.right < length loci) = operation_parts (length loci) o h in
    for_both_under loci o.left o.right (Eq (applied (length loci) 2 o (Bound 1) (Bound 0)) (applied (length loci) 2 o (Bound 0) (Bound 1))) c ps.1 ps.2
    (and_from _ _ (applied_under (length loci) 2 o (Bound 1) (Bound 0) ps.0 (index_1_of_2 (length loci)) (index_0_of_2 (length loci))) (applied_under (length loci) 2 o (Bound 0) (Bound 1) ps.0 (index_0_of_2 (length loci)) (index_1_of_2 (length loci))))
property_under loci (form.Idempotence o) c h =
    let ps : (term_under (length loci) o.term ≡ true) × (o.left < length loci) × (o.right < length loci) = operation_parts (length loci) o h in
    for_one_under loci o.left (Eq (applied (length loci) 1 o (Bound 0) (Bound 0)) (Bound 0)) c ps.1
    (and_from _ _ (applied_under (length loci) 1 o (Bound 0) (Bound 0) ps.0 (index_0 (length loci)) (index_0 (length loci))) (index_0 (length loci)))
property_under loci (form.Involutiveness o) c h = unary_under loci o (Bound 0) c h (index_0 (length loci))
property_under loci (form.Projectivity o) c h =
    unary_under loci o (applied_to (length loci) o (Bound 0)) c h (applied_to_under (length loci) o (Bound 0) (and_parts (term_under (length loci) o.term) (nat_lt o.place (length loci)) h).0 (index_0 (length loci)))
property_under loci (form.Sethood s) c h = sethood_under (length loci) (mode_on loci s) (mode_on_under loci s)
