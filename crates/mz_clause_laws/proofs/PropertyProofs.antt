-- Proofs of the laws of properties.
use Rattle.std.proofs.Common.{◌≡◌, ℕ, ◌+◌, ◌<◌, ◌≤◌, List, [], ◌∷◌, ◌++◌, map, length, drop, refl, sym, ap, ◌∙◌, subst, arith, Bool, true, false}
use Rattle.std.specs.Prelude.{◌&&◌, nat_lt}
use Rattle.std.specs.List.{list_all}
use Rattle.std.proofs.lemmas.Bool.{and_parts, ltb-true}
use Rattle.std.proofs.lemmas.List.{map-append}
use Rattle.std.proofs.lemmas.Grind.{flat_map-append}
use Rattle.mz_logic.specs.Term as term
use Rattle.mz_logic.specs.Term.{Bound}
use Rattle.mz_logic.specs.Formula as formula
use Rattle.mz_logic.specs.Formula.{Formula, Not, And}
use Rattle.mz_logic.specs.Negation.{negated, falsity}
use Rattle.mz_logic.specs.Indices.{closed}
use Rattle.mz_logic.specs.Literal.{literal_formula}
use Rattle.mz_logic.specs.Substitution.{substitute, substitute_formula, value_at, body_at}
use Rattle.mz_logic.specs.Derives.{Derives}
use Rattle.mz_logic.specs.declared.literal.Literal.{Literal}
use Rattle.mz_logic.specs.declared.literal.Literal.TheVariants as literal
use Rattle.mz_logic.proofs.SubstitutionLaws.{substitute-agree, substitute_formula-agree, substitute-substitute, substitute_formula-substitute, substitute-closed}
use Rattle.mz_logic.proofs.ValueLaws.{substitute-value_at}
use Rattle.mz_logic.proofs.Congruence.{formula_congruence}
use Rattle.mz_logic.proofs.Rules.{not_in, not_out, classical, and_in}
use Rattle.mz_logic.proofs.Connectives.{first, under, swapped}
use Rattle.mz_logic.proofs.Each.{Along, negated_in, negated_out}
use Rattle.mz_core.specs.Statement.{Statement, Eq}
use Rattle.mz_core.specs.StatementForms.{opposite, implication, disjunction}
use Rattle.mz_core.specs.Parts.{where_all}
use Rattle.mz_core.specs.Erasure.{erase}
use Rattle.mz_core.specs.Guard.{guard, guard_literals}
use Rattle.mz_core.specs.Closed.{term_under, literal_under}
use Rattle.mz_core.specs.TypeShift.{shift_type}
use Rattle.mz_core.specs.TypeSubstitution.{substitute_literal}
use Rattle.mz_core.specs.TypeStatements.{literal_statement}
use Rattle.mz_core.specs.declared.soft_type.SoftType.{SoftType}
use Rattle.mz_core.specs.declared.property.Relation.{Relation}
use Rattle.mz_core.specs.declared.property.Operation.{Operation}
use Rattle.mz_core.specs.declared.property.UnaryOperation.{UnaryOperation}
use Rattle.mz_core.specs.declared.property.PropertyForm.TheVariants as form
use Rattle.mz_core.proofs.TermMaps.{negated-with}
use Rattle.mz_core.proofs.MapInstances.{substitutes, substitute_formula-with}
use Rattle.mz_core.proofs.LawProofs.{erasure_of_negation, guard_of_substitution}
use Rattle.mz_ground.specs.ClauseFormula.{complement, clause_formula}
use Rattle.mz_ground.specs.declared.trigger.Trigger.TheVariants.{Term}
use Rattle.mz_items.specs.Loci.{over}
use Rattle.mz_items.specs.Closed.{relation_under, operation_under, unary_operation_under}
use Rattle.mz_items.specs.PropertyRows.{locus_type, locus_values, related, applied, applied_to, inner_guard, for_one, for_both, reflexivity, irreflexivity, symmetry, asymmetry, connectedness, commutativity, idempotence, involutiveness, projectivity}
use Rattle.mz_clauses.specs.declared.clause_groups.ClauseGroup.{ClauseGroup}
use Rattle.mz_clauses.specs.Guards.{loci_guards}
use Rattle.mz_clauses.specs.Groups.{group_clauses, groups_clauses, literal_trigger}
use Rattle.mz_clauses.specs.SameTypes.{same_type}
use Rattle.mz_clauses.specs.PropertyClauses.{exchanged_relation, exchanged_operation, operation_at, relation_groups, operation_groups, reflexivity_groups, irreflexivity_groups, symmetry_groups, symmetry_of_relation, symmetry_of_negation, if_same, asymmetry_groups, connectedness_groups, commutativity_groups, idempotence_groups, iterated_groups}
use Rattle.mz_clause_laws.specs.RowLaws.{AllFollow, Follow}
use Rattle.mz_clause_laws.specs.PropertyLaws.{PropertyLaw}
use Rattle.mz_clause_laws.proofs.Instances.{formulas_at, along_first}
use Rattle.mz_clause_laws.proofs.Implications.{premises_at}
use Rattle.mz_clause_laws.proofs.Literals.{implication_out, where_literals_out}
use Rattle.mz_clause_laws.proofs.RowProofs.{follow_append, group_follows, group_if_any_follows, premises, under_guards, further}
use Rattle.mz_clause_laws.proofs.Valuations.{choose, value_at-choose-same, choose-last, term_at_loci, formula_at_loci, literal_at, literal_within, term_within, type_past, value_closed}
use Rattle.mz_clause_laws.proofs.LocusLaws.{one_locus, two_loci}
use Rattle.mz_clause_laws.proofs.SameProofs.{same_type-true}

-- negations
negated_at : (v : ℕ → term.Term) (f : Formula) → substitute_formula 0 v (negated f) ≡ negated (substitute_formula 0 v f)
negated_at v f = substitute_formula-with v 0 (negated f) ∙ (negated-with (substitutes v) 0 f ∙ ap negated (sym (substitute_formula-with v 0 f)))

complement_is : (l : Literal) → literal_formula (complement l) ≡ negated (literal_formula l)
complement_is (literal.Atom true s ts) = refl
complement_is (literal.Atom false s ts) = refl
complement_is (literal.Eq true t u) = refl
complement_is (literal.Eq false t u) = refl

complement_at : (v : ℕ → term.Term) (l : Literal) → substitute_formula 0 v (literal_formula (complement l)) ≡ negated (substitute_formula 0 v (literal_formula l))
complement_at v l = ap (substitute_formula 0 v) (complement_is l) ∙ negated_at v (literal_formula l)

pub opposite_at : (v : ℕ → term.Term) (s : Statement) → substitute_formula 0 v (erase (opposite s)) ≡ negated (substitute_formula 0 v (erase s))
opposite_at v s = ap (substitute_formula 0 v) (erasure_of_negation s) ∙ negated_at v (erase s)

erased_literal : (l : Literal) → erase (literal_statement l) ≡ literal_formula l
erased_literal (literal.Atom true s ts) = refl
erased_literal (literal.Atom false s ts) = refl
erased_literal (literal.Eq true t u) = refl
erased_literal (literal.Eq false t u) = refl

-- R(a,b) at the values of the loci
abbrev relation_of : List term.Term → Relation → term.Term → term.Term → Formula
relation_of ts r a b = substitute_formula 0 (choose ts r.left a r.right b) (literal_formula r.literal)

relation_at : (n : ℕ) (by : ℕ) (us ts : List term.Term) (r : Relation) (t u a b : term.Term) → literal_under n r.literal ≡ true → by ≤ length us → drop by us ≡ ts → substitute 0 (value_at us) t ≡ a → substitute 0 (value_at us) u ≡ b → substitute_formula 0 (value_at us) (literal_formula (substitute_literal 0 (value_at (locus_values by r.left t r.right u n)) r.literal)) ≡ relation_of ts r a b
relation_at n by us ts r t u a b h le rest p q =
    ap (substitute_formula 0 (value_at us)) (literal_at (value_at (locus_values by r.left t r.right u n)) r.literal) ∙
    formula_at_loci by r.left r.right n us ts t u a b (literal_formula r.literal) (literal_within n r.literal h) le rest p q

related_at : (n : ℕ) (by : ℕ) (us ts : List term.Term) (r : Relation) (t u a b : term.Term) → literal_under n r.literal ≡ true → by ≤ length us → drop by us ≡ ts → substitute 0 (value_at us) t ≡ a → substitute 0 (value_at us) u ≡ b → substitute_formula 0 (value_at us) (erase (related n by r t u)) ≡ relation_of ts r a b
related_at n by us ts r t u a b h le rest p q =
    ap (substitute_formula 0 (value_at us)) (erased_literal (substitute_literal 0 (value_at (locus_values by r.left t r.right u n)) r.literal)) ∙
    relation_at n by us ts r t u a b h le rest p q

-- the predicate itself, and with its loci exchanged
itself_at : (ts : List term.Term) (r : Relation) → substitute_formula 0 (value_at ts) (literal_formula r.literal) ≡ relation_of ts r (value_at ts r.left) (value_at ts r.right)
itself_at ts r i = substitute_formula 0 (λ k. value_at-choose-same ts r.left r.right k i) (literal_formula r.literal)

exchanged_at : (loci : List SoftType) (ts : List term.Term) (r : Relation) → literal_under (length loci) r.literal ≡ true → substitute_formula 0 (value_at ts) (literal_formula (exchanged_relation loci r)) ≡ relation_of ts r (value_at ts r.right) (value_at ts r.left)
exchanged_at loci ts r h =
    let none : 0 ≤ length ts = omega arith in
    relation_at (length loci) 0 ts ts r (Bound r.right) (Bound r.left) (value_at ts r.right) (value_at ts r.left) h none refl (substitute-value_at ts r.right) (substitute-value_at ts r.left)

-- what a relation without constants and loose indices has
record IsRelation (n : ℕ) (r : Relation) : Type 0 where
  literal : literal_under n r.literal ≡ true
  left : r.left < n
  right : r.right < n

relation_has : (n : ℕ) (r : Relation) → relation_under n r ≡ true → IsRelation n r
relation_has n r h =
    let outer : ((literal_under n r.literal && nat_lt r.left n) ≡ true) × (nat_lt r.right n ≡ true) = and_parts (literal_under n r.literal && nat_lt r.left n) (nat_lt r.right n) h in
    let inner : (literal_under n r.literal ≡ true) × (nat_lt r.left n ≡ true) = and_parts (literal_under n r.literal) (nat_lt r.left n) outer.0 in
    record { literal = inner.0; left = ltb-true r.left n inner.1; right = ltb-true r.right n outer.1 }

-- the formula at two equal values for the second locus
abbrev open_at : List term.Term → Relation → term.Term → Formula
open_at ts r a = substitute_formula 0 (choose ts r.left a r.right (Bound 0)) (literal_formula r.literal)

open_is : (n : ℕ) (ts : List term.Term) (r : Relation) (a w : term.Term) → literal_under n r.literal ≡ true → length ts ≡ n → list_all closed ts ≡ true → closed a ≡ true → body_at (open_at ts r a) w ≡ relation_of ts r a w
open_is n ts r a w h count all ca =
    substitute_formula-substitute 0 (choose ts r.left a r.right (Bound 0)) (value_at (w ∷ [])) (literal_formula r.literal) ∙
    substitute_formula-agree 0 n (λ k. substitute 0 (value_at (w ∷ [])) (choose ts r.left a r.right (Bound 0) k)) (choose ts r.left a r.right w) (literal_formula r.literal)
    (λ k lt. choose-last ts r.left r.right a w k all ca (omega arith)) (literal_within n r.literal h)

equal_second : (ax g : List Formula) (n : ℕ) (ts : List term.Term) (r : Relation) (a w v : term.Term) → literal_under n r.literal ≡ true → length ts ≡ n → list_all closed ts ≡ true → closed a ≡ true → closed w ≡ true → closed v ≡ true → Derives ax g (formula.Eq w v) → Derives ax g (relation_of ts r a w) → Derives ax g (relation_of ts r a v)
equal_second ax g n ts r a w v h count all ca cw cv e d =
    subst (Derives ax g) (open_is n ts r a v h count all ca)
    (formula_congruence ax g w v (open_at ts r a) cw cv e (subst (Derives ax g) (sym (open_is n ts r a w h count all ca)) d))

-- one clause of a predicate
relation_row : (ax known : List Formula) (loci : List SoftType) (r : Relation) (ps : List Literal) (c : Literal) → ((ts : List term.Term) → list_all closed ts ≡ true → length ts ≡ length loci → Derives ax (premises_at known ts (loci_guards 0 loci ++ ps)) (substitute_formula 0 (value_at ts) (literal_formula c))) → AllFollow ax known (map clause_formula (groups_clauses (relation_groups loci r ps c)))
relation_row ax known loci r ps c each =
    group_if_any_follows ax known (length loci) (literal_trigger r.literal) (loci_guards 0 loci ++ ps) (c ∷ []) (λ ts h count. (each ts h count, tt))

-- one clause of a functor
operation_row : (ax known : List Formula) (loci : List SoftType) (t : term.Term) (ps : List Literal) (c : Literal) → ((ts : List term.Term) → list_all closed ts ≡ true → length ts ≡ length loci → Derives ax (premises_at known ts (loci_guards 0 loci ++ ps)) (substitute_formula 0 (value_at ts) (literal_formula c))) → AllFollow ax known (map clause_formula (groups_clauses (operation_groups loci t ps c)))
operation_row ax known loci t ps c each =
    group_follows ax known (length loci) (Term t) (loci_guards 0 loci ++ ps) (c ∷ []) (λ ts h count. (each ts h count, tt))

-- what a property says, and the guards, under the premises of a clause
stated : (ax known : List Formula) (ts : List term.Term) (loci : List SoftType) (ps : List Literal) (s : Statement) → list_all closed ts ≡ true → length ts ≡ length loci → Derives ax known (erase (over loci s)) → Derives ax (premises_at known ts (loci_guards 0 loci ++ ps)) (substitute_formula 0 (value_at ts) (erase s))
stated ax known ts loci ps s h count d =
    let whole : length ts ≡ length loci + 0 = omega arith in
    under_guards ax known 0 ts loci ps s h whole d

guards : (ax known : List Formula) (ts : List term.Term) (loci : List SoftType) (ps : List Literal) → Along ax (premises_at known ts (loci_guards 0 loci ++ ps)) (formulas_at ts (loci_guards 0 loci))
guards ax known ts loci ps = along_first ax (premises_at known ts (loci_guards 0 loci ++ ps)) ts (loci_guards 0 loci) ps (premises ax known ts (loci_guards 0 loci ++ ps))

-- the property at one value, and at two
stated_once : (ax known : List Formula) (ts : List term.Term) (loci : List SoftType) (ps : List Literal) (left : ℕ) (s : Statement) → list_all closed ts ≡ true → length ts ≡ length loci → left < length loci → Derives ax known (erase (over loci (for_one loci left s))) → Derives ax (premises_at known ts (loci_guards 0 loci ++ ps)) (substitute_formula 0 (value_at (value_at ts left ∷ ts)) (erase s))
stated_once ax known ts loci ps left s h count lt d =
    one_locus ax (premises_at known ts (loci_guards 0 loci ++ ps)) loci ts left s h count lt (guards ax known ts loci ps) (stated ax known ts loci ps (for_one loci left s) h count d)

stated_twice : (ax known : List Formula) (ts : List term.Term) (loci : List SoftType) (ps : List Literal) (left right p q : ℕ) (s : Statement) → list_all closed ts ≡ true → length ts ≡ length loci → p < length loci → q < length loci → locus_type loci left ≡ locus_type loci p → locus_type loci right ≡ locus_type loci q → Derives ax known (erase (over loci (for_both loci left right s))) → Derives ax (premises_at known ts (loci_guards 0 loci ++ ps)) (substitute_formula 0 (value_at (value_at ts q ∷ value_at ts p ∷ ts)) (erase s))
stated_twice ax known ts loci ps left right p q s h count ltp ltq ep eq d =
    two_loci ax (premises_at known ts (loci_guards 0 loci ++ ps)) loci ts left right p q s h count ltp ltq ep eq (guards ax known ts loci ps) (stated ax known ts loci ps (for_both loci left right s) h count d)

-- the values of the innermost variables
at_first : (w : term.Term) (us : List term.Term) → substitute 0 (value_at (w ∷ us)) (Bound 0) ≡ w
at_first w us = substitute-value_at (w ∷ us) 0

at_second : (w v : term.Term) (us : List term.Term) → substitute 0 (value_at (w ∷ v ∷ us)) (Bound 1) ≡ v
at_second w v us = substitute-value_at (w ∷ v ∷ us) 1

related_once : (ts : List term.Term) (loci : List SoftType) (r : Relation) (w : term.Term) → IsRelation (length loci) r → substitute_formula 0 (value_at (w ∷ ts)) (erase (related (length loci) 1 r (Bound 0) (Bound 0))) ≡ relation_of ts r w w
related_once ts loci r w has =
    let some : 1 ≤ length (w ∷ ts) = omega arith in
    related_at (length loci) 1 (w ∷ ts) ts r (Bound 0) (Bound 0) w w has.literal some refl (at_first w ts) (at_first w ts)

related_forth : (ts : List term.Term) (loci : List SoftType) (r : Relation) (w v : term.Term) → IsRelation (length loci) r → substitute_formula 0 (value_at (w ∷ v ∷ ts)) (erase (related (length loci) 2 r (Bound 1) (Bound 0))) ≡ relation_of ts r v w
related_forth ts loci r w v has =
    let some : 2 ≤ length (w ∷ v ∷ ts) = omega arith in
    related_at (length loci) 2 (w ∷ v ∷ ts) ts r (Bound 1) (Bound 0) v w has.literal some refl (at_second w v ts) (at_first w (v ∷ ts))

related_back : (ts : List term.Term) (loci : List SoftType) (r : Relation) (w v : term.Term) → IsRelation (length loci) r → substitute_formula 0 (value_at (w ∷ v ∷ ts)) (erase (related (length loci) 2 r (Bound 0) (Bound 1))) ≡ relation_of ts r w v
related_back ts loci r w v has =
    let some : 2 ≤ length (w ∷ v ∷ ts) = omega arith in
    related_at (length loci) 2 (w ∷ v ∷ ts) ts r (Bound 0) (Bound 1) w v has.literal some refl (at_first w (v ∷ ts)) (at_second w v ts)

-- the premise x = y
equal_values : (ax g : List Formula) (ts : List term.Term) (left right : ℕ) → Derives ax g (substitute_formula 0 (value_at ts) (formula.Eq (Bound left) (Bound right))) → Derives ax g (formula.Eq (value_at ts left) (value_at ts right))
equal_values ax g ts left right d =
    subst (Derives ax g) (λ i. formula.Eq (substitute-value_at ts left i) (substitute-value_at ts right i)) d

tollens : (ax g : List Formula) (f k : Formula) → Derives ax (f ∷ g) k → Derives ax g (negated k) → Derives ax g (negated f)
tollens ax g f k d e =
    negated_in ax g f (not_in ax g f (not_out ax (f ∷ g) k falsity d (negated_out ax (f ∷ g) k (under ax g f (negated k) e))))

reflexivity_law : (loci : List SoftType) (r : Relation) → IsRelation (length loci) r → Follow (reflexivity_groups loci r) loci (reflexivity loci r)
reflexivity_law loci r has ax known d =
    relation_row ax known loci r (literal.Eq true (Bound r.left) (Bound r.right) ∷ []) r.literal
    (λ ts h count.
    let g : List Formula = premises_at known ts (loci_guards 0 loci ++ literal.Eq true (Bound r.left) (Bound r.right) ∷ []) in
    let wl : term.Term = value_at ts r.left in
    let wr : term.Term = value_at ts r.right in
    let ltl : r.left < length ts = omega (arith, has.left) in
    let ltr : r.right < length ts = omega (arith, has.right) in
    let cl : closed (value_at ts r.left) ≡ true = value_closed ts r.left h ltl in
    let cr : closed (value_at ts r.right) ≡ true = value_closed ts r.right h ltr in
    let one : Derives ax g (relation_of ts r (value_at ts r.left) (value_at ts r.left)) =
    subst (Derives ax g) (related_once ts loci r (value_at ts r.left) has) (stated_once ax known ts loci (literal.Eq true (Bound r.left) (Bound r.right) ∷ []) r.left (related (length loci) 1 r (Bound 0) (Bound 0)) h count has.left d) in
    let same : Derives ax g (formula.Eq (value_at ts r.left) (value_at ts r.right)) = equal_values ax g ts r.left r.right (further ax known ts (loci_guards 0 loci) (literal.Eq true (Bound r.left) (Bound r.right) ∷ [])).0 in
    subst (Derives ax g) (sym (itself_at ts r))
    (equal_second ax g (length loci) ts r (value_at ts r.left) (value_at ts r.left) (value_at ts r.right) has.literal count h cl cl cr same one))

irreflexivity_law : (loci : List SoftType) (r : Relation) → IsRelation (length loci) r → Follow (irreflexivity_groups loci r) loci (irreflexivity loci r)
irreflexivity_law loci r has ax known d =
    relation_row ax known loci r (literal.Eq true (Bound r.left) (Bound r.right) ∷ []) (complement r.literal)
    (λ ts h count.
    let g : List Formula = premises_at known ts (loci_guards 0 loci ++ literal.Eq true (Bound r.left) (Bound r.right) ∷ []) in
    let ltl : r.left < length ts = omega (arith, has.left) in
    let ltr : r.right < length ts = omega (arith, has.right) in
    let cl : closed (value_at ts r.left) ≡ true = value_closed ts r.left h ltl in
    let cr : closed (value_at ts r.right) ≡ true = value_closed ts r.right h ltr in
    let f : Formula = relation_of ts r (value_at ts r.left) (value_at ts r.right) in
    let one : Derives ax g (negated (relation_of ts r (value_at ts r.left) (value_at ts r.left))) =
    subst (Derives ax g) (opposite_at (value_at (value_at ts r.left ∷ ts)) (related (length loci) 1 r (Bound 0) (Bound 0)) ∙ ap negated (related_once ts loci r (value_at ts r.left) has))
    (stated_once ax known ts loci (literal.Eq true (Bound r.left) (Bound r.right) ∷ []) r.left (opposite (related (length loci) 1 r (Bound 0) (Bound 0))) h count has.left d) in
    let same : Derives ax g (formula.Eq (value_at ts r.left) (value_at ts r.right)) = equal_values ax g ts r.left r.right (further ax known ts (loci_guards 0 loci) (literal.Eq true (Bound r.left) (Bound r.right) ∷ [])).0 in
    let back : Derives ax (f ∷ g) (formula.Eq (value_at ts r.right) (value_at ts r.left)) = swapped ax (f ∷ g) (value_at ts r.left) (value_at ts r.right) cl cr (under ax g f (formula.Eq (value_at ts r.left) (value_at ts r.right)) same) in
    let led : Derives ax (f ∷ g) (relation_of ts r (value_at ts r.left) (value_at ts r.left)) = equal_second ax (f ∷ g) (length loci) ts r (value_at ts r.left) (value_at ts r.right) (value_at ts r.left) has.literal count h cl cr cl back (first ax g f) in
    subst (Derives ax g) (sym (complement_at (value_at ts) r.literal ∙ ap negated (itself_at ts r)))
    (tollens ax g f (relation_of ts r (value_at ts r.left) (value_at ts r.left)) led one))

-- the premise R(x,y), and its negation
related_premise : (ax known : List Formula) (ts : List term.Term) (loci : List SoftType) (r : Relation) → Derives ax (premises_at known ts (loci_guards 0 loci ++ r.literal ∷ [])) (relation_of ts r (value_at ts r.left) (value_at ts r.right))
related_premise ax known ts loci r = subst (Derives ax (premises_at known ts (loci_guards 0 loci ++ r.literal ∷ []))) (itself_at ts r) (further ax known ts (loci_guards 0 loci) (r.literal ∷ [])).0

negated_premise : (ax known : List Formula) (ts : List term.Term) (loci : List SoftType) (r : Relation) → Derives ax (premises_at known ts (loci_guards 0 loci ++ complement r.literal ∷ [])) (negated (relation_of ts r (value_at ts r.left) (value_at ts r.right)))
negated_premise ax known ts loci r =
    subst (Derives ax (premises_at known ts (loci_guards 0 loci ++ complement r.literal ∷ []))) (complement_at (value_at ts) r.literal ∙ ap negated (itself_at ts r)) (further ax known ts (loci_guards 0 loci) (complement r.literal ∷ [])).0

symmetry_law : (loci : List SoftType) (r : Relation) → IsRelation (length loci) r → Follow (symmetry_of_relation loci r) loci (symmetry loci r)
symmetry_law loci r has ax known d =
    relation_row ax known loci r (r.literal ∷ []) (exchanged_relation loci r)
    (λ ts h count.
    let g : List Formula = premises_at known ts (loci_guards 0 loci ++ r.literal ∷ []) in
    let us : List term.Term = value_at ts r.right ∷ value_at ts r.left ∷ ts in
    let forth : Statement = related (length loci) 2 r (Bound 1) (Bound 0) in
    let back : Statement = related (length loci) 2 r (Bound 0) (Bound 1) in
    let both : Derives ax g (substitute_formula 0 (value_at us) (erase (implication forth back))) = stated_twice ax known ts loci (r.literal ∷ []) r.left r.right r.left r.right (implication forth back) h count has.left has.right refl refl d in
    let holds : Derives ax g (substitute_formula 0 (value_at us) (erase forth)) = subst (Derives ax g) (sym (related_forth ts loci r (value_at ts r.right) (value_at ts r.left) has)) (related_premise ax known ts loci r) in
    subst (Derives ax g) (related_back ts loci r (value_at ts r.right) (value_at ts r.left) has ∙ sym (exchanged_at loci ts r has.literal))
    (implication_out ax g (value_at us) forth back holds both))

symmetry_of_negation_law : (loci : List SoftType) (r : Relation) → IsRelation (length loci) r → locus_type loci r.left ≡ locus_type loci r.right → Follow (symmetry_of_negation loci r) loci (symmetry loci r)
symmetry_of_negation_law loci r has one_type ax known d =
    relation_row ax known loci r (complement r.literal ∷ []) (complement (exchanged_relation loci r))
    (λ ts h count.
    let g : List Formula = premises_at known ts (loci_guards 0 loci ++ complement r.literal ∷ []) in
    let us : List term.Term = value_at ts r.left ∷ value_at ts r.right ∷ ts in
    let forth : Statement = related (length loci) 2 r (Bound 1) (Bound 0) in
    let back : Statement = related (length loci) 2 r (Bound 0) (Bound 1) in
    let f : Formula = substitute_formula 0 (value_at us) (erase forth) in
    let k : Formula = substitute_formula 0 (value_at us) (erase back) in
    let both : Derives ax g (substitute_formula 0 (value_at us) (erase (implication forth back))) = stated_twice ax known ts loci (complement r.literal ∷ []) r.left r.right r.right r.left (implication forth back) h count has.right has.left one_type (sym one_type) d in
    let led : Derives ax (f ∷ g) k = implication_out ax (f ∷ g) (value_at us) forth back (first ax g f) (under ax g f (substitute_formula 0 (value_at us) (erase (implication forth back))) both) in
    let fails : Derives ax g (negated k) = subst (λ z. Derives ax g (negated z)) (sym (related_back ts loci r (value_at ts r.left) (value_at ts r.right) has)) (negated_premise ax known ts loci r) in
    subst (Derives ax g) (ap negated (related_forth ts loci r (value_at ts r.left) (value_at ts r.right) has ∙ sym (exchanged_at loci ts r has.literal)) ∙ sym (complement_at (value_at ts) (exchanged_relation loci r)))
    (tollens ax g f k led fails))

asymmetry_law : (loci : List SoftType) (r : Relation) → IsRelation (length loci) r → Follow (asymmetry_groups loci r) loci (asymmetry loci r)
asymmetry_law loci r has ax known d =
    relation_row ax known loci r (r.literal ∷ []) (complement (exchanged_relation loci r))
    (λ ts h count.
    let g : List Formula = premises_at known ts (loci_guards 0 loci ++ r.literal ∷ []) in
    let us : List term.Term = value_at ts r.right ∷ value_at ts r.left ∷ ts in
    let forth : Statement = related (length loci) 2 r (Bound 1) (Bound 0) in
    let back : Statement = related (length loci) 2 r (Bound 0) (Bound 1) in
    let both : Derives ax g (substitute_formula 0 (value_at us) (erase (implication forth (opposite back)))) = stated_twice ax known ts loci (r.literal ∷ []) r.left r.right r.left r.right (implication forth (opposite back)) h count has.left has.right refl refl d in
    let holds : Derives ax g (substitute_formula 0 (value_at us) (erase forth)) = subst (Derives ax g) (sym (related_forth ts loci r (value_at ts r.right) (value_at ts r.left) has)) (related_premise ax known ts loci r) in
    subst (Derives ax g) (opposite_at (value_at us) back ∙ (ap negated (related_back ts loci r (value_at ts r.right) (value_at ts r.left) has ∙ sym (exchanged_at loci ts r has.literal)) ∙ sym (complement_at (value_at ts) (exchanged_relation loci r))))
    (implication_out ax g (value_at us) forth (opposite back) holds both))

connectedness_law : (loci : List SoftType) (r : Relation) → IsRelation (length loci) r → Follow (connectedness_groups loci r) loci (connectedness loci r)
connectedness_law loci r has ax known d =
    relation_row ax known loci r (complement r.literal ∷ []) (exchanged_relation loci r)
    (λ ts h count.
    let g : List Formula = premises_at known ts (loci_guards 0 loci ++ complement r.literal ∷ []) in
    let us : List term.Term = value_at ts r.right ∷ value_at ts r.left ∷ ts in
    let forth : Statement = related (length loci) 2 r (Bound 1) (Bound 0) in
    let back : Statement = related (length loci) 2 r (Bound 0) (Bound 1) in
    let a : Formula = substitute_formula 0 (value_at us) (erase (opposite forth)) in
    let b : Formula = substitute_formula 0 (value_at us) (erase (opposite back)) in
    let k : Formula = substitute_formula 0 (value_at us) (erase back) in
    let some : Derives ax g (Not (And a b)) = stated_twice ax known ts loci (complement r.literal ∷ []) r.left r.right r.left r.right (disjunction forth back) h count has.left has.right refl refl d in
    let fails : Derives ax g a = subst (Derives ax g) (ap negated (sym (related_forth ts loci r (value_at ts r.right) (value_at ts r.left) has)) ∙ sym (opposite_at (value_at us) forth)) (negated_premise ax known ts loci r) in
    let against : List Formula = Not k ∷ g in
    let other : Derives ax (Not k ∷ g) b = subst (Derives ax (Not k ∷ g)) (sym (opposite_at (value_at us) back)) (negated_in ax (Not k ∷ g) k (first ax g (Not k))) in
    let holds : Derives ax g k = classical ax g k (not_out ax (Not k ∷ g) (And a b) falsity (and_in ax (Not k ∷ g) a b (under ax g (Not k) a fails) other) (under ax g (Not k) (Not (And a b)) some)) in
    subst (Derives ax g) (related_back ts loci r (value_at ts r.right) (value_at ts r.left) has ∙ sym (exchanged_at loci ts r has.literal)) holds)

-- functors: F(a,b) at the values of the loci
abbrev operation_of : List term.Term → Operation → term.Term → term.Term → term.Term
operation_of ts o a b = substitute 0 (choose ts o.left a o.right b) o.term

record IsOperation (n : ℕ) (o : Operation) : Type 0 where
  term : term_under n o.term ≡ true
  left : o.left < n
  right : o.right < n

operation_has : (n : ℕ) (o : Operation) → operation_under n o ≡ true → IsOperation n o
operation_has n o h =
    let outer : ((term_under n o.term && nat_lt o.left n) ≡ true) × (nat_lt o.right n ≡ true) = and_parts (term_under n o.term && nat_lt o.left n) (nat_lt o.right n) h in
    let inner : (term_under n o.term ≡ true) × (nat_lt o.left n ≡ true) = and_parts (term_under n o.term) (nat_lt o.left n) outer.0 in
    record { term = inner.0; left = ltb-true o.left n inner.1; right = ltb-true o.right n outer.1 }

substitute-operation_itself : (ts : List term.Term) (o : Operation) → substitute 0 (value_at ts) o.term ≡ operation_of ts o (value_at ts o.left) (value_at ts o.right)
substitute-operation_itself ts o i = substitute 0 (λ k. value_at-choose-same ts o.left o.right k i) o.term

operation_exchanged : (loci : List SoftType) (ts : List term.Term) (o : Operation) → IsOperation (length loci) o → substitute 0 (value_at ts) (exchanged_operation loci o) ≡ operation_of ts o (value_at ts o.right) (value_at ts o.left)
operation_exchanged loci ts o has =
    let none : 0 ≤ length ts = omega arith in
    term_at_loci 0 o.left o.right (length loci) ts ts (Bound o.right) (Bound o.left) (value_at ts o.right) (value_at ts o.left) o.term (term_within (length loci) o.term has.term) none refl (substitute-value_at ts o.right) (substitute-value_at ts o.left)

commutativity_law : (loci : List SoftType) (o : Operation) → IsOperation (length loci) o → Follow (commutativity_groups loci o) loci (commutativity loci o)
commutativity_law loci o has ax known d =
    operation_row ax known loci o.term [] (literal.Eq true o.term (exchanged_operation loci o))
    (λ ts h count.
    let g : List Formula = premises_at known ts (loci_guards 0 loci ++ []) in
    let wl : term.Term = value_at ts o.left in
    let wr : term.Term = value_at ts o.right in
    let us : List term.Term = wr ∷ wl ∷ ts in
    let n : ℕ = length loci in
    let some : 2 ≤ length us = omega arith in
    let forth : term.Term = applied (length loci) 2 o (Bound 1) (Bound 0) in
    let back : term.Term = applied (length loci) 2 o (Bound 0) (Bound 1) in
    let both : Derives ax g (formula.Eq (substitute 0 (value_at us) forth) (substitute 0 (value_at us) back)) = stated_twice ax known ts loci [] o.left o.right o.left o.right (Eq forth back) h count has.left has.right refl refl d in
    let first_is : substitute 0 (value_at us) forth ≡ operation_of ts o wl wr = term_at_loci 2 o.left o.right (length loci) us ts (Bound 1) (Bound 0) wl wr o.term (term_within (length loci) o.term has.term) some refl (at_second wr wl ts) (at_first wr (wl ∷ ts)) in
    let second_is : substitute 0 (value_at us) back ≡ operation_of ts o wr wl = term_at_loci 2 o.left o.right (length loci) us ts (Bound 0) (Bound 1) wr wl o.term (term_within (length loci) o.term has.term) some refl (at_first wr (wl ∷ ts)) (at_second wr wl ts) in
    subst (Derives ax g) (λ i. formula.Eq ((first_is ∙ sym (substitute-operation_itself ts o)) i) ((second_is ∙ sym (operation_exchanged loci ts o has)) i)) both)

operation_open : (n : ℕ) (ts : List term.Term) (o : Operation) (a w : term.Term) → term_under n o.term ≡ true → length ts ≡ n → list_all closed ts ≡ true → closed a ≡ true → substitute 0 (value_at (w ∷ [])) (operation_of ts o a (Bound 0)) ≡ operation_of ts o a w
operation_open n ts o a w h count all ca =
    substitute-substitute 0 (choose ts o.left a o.right (Bound 0)) (value_at (w ∷ [])) o.term ∙
    substitute-agree 0 n (λ k. substitute 0 (value_at (w ∷ [])) (choose ts o.left a o.right (Bound 0) k)) (choose ts o.left a o.right w) o.term
    (λ k lt. choose-last ts o.left o.right a w k all ca (omega arith)) (term_within n o.term h)

idempotence_law : (loci : List SoftType) (o : Operation) → IsOperation (length loci) o → Follow (idempotence_groups loci o) loci (idempotence loci o)
idempotence_law loci o has ax known d =
    operation_row ax known loci o.term (literal.Eq true (Bound o.left) (Bound o.right) ∷ []) (literal.Eq true o.term (Bound o.left))
    (λ ts h count.
    let g : List Formula = premises_at known ts (loci_guards 0 loci ++ literal.Eq true (Bound o.left) (Bound o.right) ∷ []) in
    let wl : term.Term = value_at ts o.left in
    let wr : term.Term = value_at ts o.right in
    let ltl : o.left < length ts = omega (arith, has.left) in
    let ltr : o.right < length ts = omega (arith, has.right) in
    let cl : closed wl ≡ true = value_closed ts o.left h ltl in
    let cr : closed wr ≡ true = value_closed ts o.right h ltr in
    let some : 1 ≤ length (wl ∷ ts) = omega arith in
    let once : term.Term = applied (length loci) 1 o (Bound 0) (Bound 0) in
    let stands : Derives ax g (formula.Eq (substitute 0 (value_at (wl ∷ ts)) once) (substitute 0 (value_at (wl ∷ ts)) (Bound 0))) = stated_once ax known ts loci (literal.Eq true (Bound o.left) (Bound o.right) ∷ []) o.left (Eq once (Bound 0)) h count has.left d in
    let once_is : substitute 0 (value_at (wl ∷ ts)) once ≡ operation_of ts o wl wl = term_at_loci 1 o.left o.right (length loci) (wl ∷ ts) ts (Bound 0) (Bound 0) wl wl o.term (term_within (length loci) o.term has.term) some refl (at_first wl ts) (at_first wl ts) in
    let body : Formula = formula.Eq (operation_of ts o wl (Bound 0)) wl in
    let body_is : (w : term.Term) → body_at body w ≡ formula.Eq (operation_of ts o wl w) wl = λ w i. formula.Eq (operation_open (length loci) ts o wl w has.term count h cl i) (substitute-closed 0 (value_at (w ∷ [])) wl cl i) in
    let same : Derives ax g (formula.Eq wl wr) = equal_values ax g ts o.left o.right (further ax known ts (loci_guards 0 loci) (literal.Eq true (Bound o.left) (Bound o.right) ∷ [])).0 in
    let start : Derives ax g (body_at body wl) = subst (Derives ax g) ((λ i. formula.Eq (once_is i) (at_first wl ts i)) ∙ sym (body_is wl)) stands in
    subst (Derives ax g) (body_is wr ∙ sym (λ i. formula.Eq (substitute-operation_itself ts o i) (substitute-value_at ts o.left i))) (formula_congruence ax g wl wr body cl cr same start))

-- a functor of one visible locus
record IsUnary (n : ℕ) (o : UnaryOperation) : Type 0 where
  term : term_under n o.term ≡ true
  place : o.place < n

unary_has : (n : ℕ) (o : UnaryOperation) → unary_operation_under n o ≡ true → IsUnary n o
unary_has n o h =
    let both : (term_under n o.term ≡ true) × (nat_lt o.place n ≡ true) = and_parts (term_under n o.term) (nat_lt o.place n) h in
    record { term = both.0; place = ltb-true o.place n both.1 }

-- F(a) at the values of the loci
abbrev unary_of : List term.Term → UnaryOperation → term.Term → term.Term
unary_of ts o a = substitute 0 (choose ts o.place a o.place a) o.term

substitute-unary_itself : (ts : List term.Term) (o : UnaryOperation) → substitute 0 (value_at ts) o.term ≡ unary_of ts o (value_at ts o.place)
substitute-unary_itself ts o i = substitute 0 (λ k. value_at-choose-same ts o.place o.place k i) o.term

unary_at : (loci : List SoftType) (ts : List term.Term) (w : term.Term) (o : UnaryOperation) (t a : term.Term) → IsUnary (length loci) o → substitute 0 (value_at (w ∷ ts)) t ≡ a → substitute 0 (value_at (w ∷ ts)) (applied_to (length loci) o t) ≡ unary_of ts o a
unary_at loci ts w o t a has p =
    let some : 1 ≤ length (w ∷ ts) = omega arith in
    term_at_loci 1 o.place o.place (length loci) (w ∷ ts) ts t t a a o.term (term_within (length loci) o.term has.term) some refl p p

substitute-unary_here : (loci : List SoftType) (ts : List term.Term) (o : UnaryOperation) (t a : term.Term) → IsUnary (length loci) o → substitute 0 (value_at ts) t ≡ a → substitute 0 (value_at ts) (operation_at loci o t) ≡ unary_of ts o a
substitute-unary_here loci ts o t a has p =
    let none : 0 ≤ length ts = omega arith in
    term_at_loci 0 o.place o.place (length loci) ts ts t t a a o.term (term_within (length loci) o.term has.term) none refl p p

-- the guard of the locus' type at F(x)
inner_guards : (loci : List SoftType) (ts : List term.Term) (w : term.Term) (ty : SoftType) (t u : term.Term) → substitute 0 (value_at (w ∷ ts)) t ≡ substitute 0 (value_at ts) u → formulas_at ts (guard_literals ty u) ≡ formulas_at (w ∷ ts) (guard_literals (shift_type 0 1 ty) t)
inner_guards loci ts w ty t u e =
    guard_of_substitution 0 (value_at ts) ty u ∙
    ((λ i. guard (sym (type_past w ts ty) i) (sym e i)) ∙ sym (guard_of_substitution 0 (value_at (w ∷ ts)) (shift_type 0 1 ty) t))

iterated_law : (loci : List SoftType) (o : UnaryOperation) (last outer : term.Term) → IsUnary (length loci) o → ((ts : List term.Term) → list_all closed ts ≡ true → length ts ≡ length loci → substitute 0 (value_at (value_at ts o.place ∷ ts)) last ≡ substitute 0 (value_at ts) outer) → Follow (iterated_groups loci o outer) loci (for_one loci o.place (where_all (inner_guard loci o) (Eq (applied_to (length loci) o (applied_to (length loci) o (Bound 0))) last)))
iterated_law loci o last outer has ends ax known d =
    operation_row ax known loci o.term (guard_literals (locus_type loci o.place) o.term) (literal.Eq true (operation_at loci o o.term) outer)
    (λ ts h count.
    let g : List Formula = premises_at known ts (loci_guards 0 loci ++ guard_literals (locus_type loci o.place) o.term) in
    let w : term.Term = value_at ts o.place in
    let us : List term.Term = w ∷ ts in
    let inner : term.Term = applied_to (length loci) o (Bound 0) in
    let twice : term.Term = applied_to (length loci) o inner in
    let ls : List Literal = guard_literals (shift_type 0 1 (locus_type loci o.place)) inner in
    let inner_is : substitute 0 (value_at us) inner ≡ substitute 0 (value_at ts) o.term = unary_at loci ts w o (Bound 0) w has (at_first w ts) ∙ sym (substitute-unary_itself ts o) in
    let twice_is : substitute 0 (value_at us) twice ≡ substitute 0 (value_at ts) (operation_at loci o o.term) =
    unary_at loci ts w o inner (substitute 0 (value_at ts) o.term) has inner_is ∙ sym (substitute-unary_here loci ts o o.term (substitute 0 (value_at ts) o.term) has refl) in
    let given : Along ax g (formulas_at us ls) = subst (Along ax g) (inner_guards loci ts w (locus_type loci o.place) inner o.term inner_is) (further ax known ts (loci_guards 0 loci) (guard_literals (locus_type loci o.place) o.term)) in
    let whole : Derives ax g (substitute_formula 0 (value_at us) (erase (where_all (map literal_statement ls) (Eq twice last)))) = stated_once ax known ts loci (guard_literals (locus_type loci o.place) o.term) o.place (where_all (inner_guard loci o) (Eq twice last)) h count has.place d in
    let equal : Derives ax g (formula.Eq (substitute 0 (value_at us) twice) (substitute 0 (value_at us) last)) = where_literals_out ax g us ls (Eq twice last) given whole in
    subst (Derives ax g) (λ i. formula.Eq (twice_is i) (ends ts h count i)) equal)

involutiveness_law : (loci : List SoftType) (o : UnaryOperation) → IsUnary (length loci) o → Follow (iterated_groups loci o (Bound o.place)) loci (involutiveness loci o)
involutiveness_law loci o has =
    iterated_law loci o (Bound 0) (Bound o.place) has (λ ts h count. at_first (value_at ts o.place) ts ∙ sym (substitute-value_at ts o.place))

projectivity_law : (loci : List SoftType) (o : UnaryOperation) → IsUnary (length loci) o → Follow (iterated_groups loci o o.term) loci (projectivity loci o)
projectivity_law loci o has =
    iterated_law loci o (applied_to (length loci) o (Bound 0)) o.term has
    (λ ts h count. unary_at loci ts (value_at ts o.place) o (Bound 0) (value_at ts o.place) has (at_first (value_at ts o.place) ts) ∙ sym (substitute-unary_itself ts o))

-- both clauses of a symmetric predicate
pub groups_follow_both : (ax known : List Formula) (these others : List ClauseGroup) → AllFollow ax known (map clause_formula (groups_clauses these)) → AllFollow ax known (map clause_formula (groups_clauses others)) → AllFollow ax known (map clause_formula (groups_clauses (these ++ others)))
groups_follow_both ax known these others p q =
    subst (λ ks. AllFollow ax known (map clause_formula ks)) (sym (flat_map-append group_clauses these others))
    (subst (AllFollow ax known) (sym (map-append clause_formula (groups_clauses these) (groups_clauses others))) (follow_append ax known (map clause_formula (groups_clauses these)) (map clause_formula (groups_clauses others)) p q))

negation_where : (loci : List SoftType) (r : Relation) (b : Bool) → same_type (locus_type loci r.left) (locus_type loci r.right) ≡ b → IsRelation (length loci) r → (ax known : List Formula) → Derives ax known (erase (over loci (symmetry loci r))) → AllFollow ax known (map clause_formula (groups_clauses (if_same b (symmetry_of_negation loci r))))
negation_where loci r true e has ax known d = symmetry_of_negation_law loci r has (same_type-true (locus_type loci r.left) (locus_type loci r.right) e) ax known d
negation_where loci r false e has ax known d = tt

both_symmetry_law : (loci : List SoftType) (r : Relation) → IsRelation (length loci) r → Follow (symmetry_groups loci r) loci (symmetry loci r)
both_symmetry_law loci r has ax known d =
    groups_follow_both ax known (symmetry_of_relation loci r) (if_same (same_type (locus_type loci r.left) (locus_type loci r.right)) (symmetry_of_negation loci r)) (symmetry_law loci r has ax known d)
    (negation_where loci r (same_type (locus_type loci r.left) (locus_type loci r.right)) refl has ax known d)

pub property_law : PropertyLaw
property_law loci (form.Reflexivity r) h = reflexivity_law loci r (relation_has (length loci) r h)
property_law loci (form.Irreflexivity r) h = irreflexivity_law loci r (relation_has (length loci) r h)
property_law loci (form.Symmetry r) h = both_symmetry_law loci r (relation_has (length loci) r h)
property_law loci (form.Asymmetry r) h = asymmetry_law loci r (relation_has (length loci) r h)
property_law loci (form.Connectedness r) h = connectedness_law loci r (relation_has (length loci) r h)
property_law loci (form.Commutativity o) h = commutativity_law loci o (operation_has (length loci) o h)
property_law loci (form.Idempotence o) h = idempotence_law loci o (operation_has (length loci) o h)
property_law loci (form.Involutiveness o) h = involutiveness_law loci o (unary_has (length loci) o h)
property_law loci (form.Projectivity o) h = projectivity_law loci o (unary_has (length loci) o h)
property_law loci (form.Sethood s) h = λ ax known d. tt
