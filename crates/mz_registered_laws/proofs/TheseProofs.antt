-- What the conditions of a registration state has no constant, and no index but those of its loci.
use Rattle.std.proofs.Common.{◌≡◌, ◌<◌, ◌+◌, ℕ, Bool, true, List, map, subst, arith, Option, None, Some}
use Rattle.std.specs.Prelude.{◌&&◌}
use Rattle.std.specs.List.{list_all}
use Rattle.std.proofs.lemmas.Bool.{and_parts, and_from, lt-ltb}
use Rattle.mz_logic.specs.Substitution.{shift}
use Rattle.mz_logic.specs.Term.{Term, Bound}
use Rattle.mz_core.specs.Closed.{term_under, adjective_under, type_under, statement_under}
use Rattle.mz_core.specs.Guard.{adjective_literal}
use Rattle.mz_core.specs.Parts.{conjunction}
use Rattle.mz_core.specs.Statement.{Statement}
use Rattle.mz_core.specs.TypeShift.{shift_adjective}
use Rattle.mz_core.specs.TypeStatements.{is_of_type}
use Rattle.mz_core.specs.declared.adjective.Adjective.{Adjective}
use Rattle.mz_core.specs.declared.soft_type.SoftType.{SoftType}
use Rattle.mz_core.specs.declared.registration.ExistentialRegistration.{ExistentialRegistration}
use Rattle.mz_core.specs.declared.registration.ConditionalRegistration.{ConditionalRegistration}
use Rattle.mz_core.specs.declared.registration.FunctorialRegistration.{FunctorialRegistration}
use Rattle.mz_core.proofs.AllLemmas.{all-map, adjective_all-with, literal_statement_all, adjective_literal_all, conjunction_all, where_all_all, for_some_all, implication_all, is_of_type_all}
use Rattle.mz_core.proofs.UnderTerms.{term_under-shift}
use Rattle.mz_items.specs.Closed.{type_if_any_under, existential_under, conditional_under, functorial_under}
use Rattle.mz_items.specs.RegistrationRows.{adjective_statement, adjective_statements, adjectives_inside, under_type, existential, conditional, functorial, existential_thesis, conditional_thesis, functorial_thesis}
use Rattle.mz_items.specs.declared.condition.Condition.{Condition}
use Rattle.mz_items.specs.declared.condition.Condition.TheVariants.{Existence, Uniqueness, Coherence, Compatibility, Consistency, Reducibility}

pub three : (a b c : Bool) → (a && b && c) ≡ true → (a ≡ true) × (b ≡ true) × (c ≡ true)
three a b c h =
    let x : ((a && b) ≡ true) × (c ≡ true) = and_parts (a && b) c h in
    let y : (a ≡ true) × (b ≡ true) = and_parts a b x.0 in
    (y.0, y.1, x.1)

-- adjectives
adjective_raised : (n : ℕ) (a : Adjective) → adjective_under n a ≡ true → adjective_under (n + 1) (shift_adjective 0 1 a) ≡ true
adjective_raised n a h = adjective_all-with term_under term_under n (n + 1) (shift 0 1) a (λ t k. term_under-shift 0 1 n t k) h

statements_under : (n : ℕ) (xs : List Adjective) (t : Term) → list_all (adjective_under n) xs ≡ true → term_under n t ≡ true → list_all (statement_under n) (adjective_statements xs t) ≡ true
statements_under n xs t h k =
    all-map (adjective_under n) (statement_under n) (adjective_statement t) xs (λ a l. literal_statement_all term_under n (adjective_literal t a) (adjective_literal_all term_under n t a k l)) h

index_0 : (n : ℕ) → term_under (n + 1) (Bound 0) ≡ true
index_0 n = let lt : 0 < n + 1 = omega arith in lt-ltb 0 (n + 1) lt

inside_under : (n : ℕ) (xs : List Adjective) → list_all (adjective_under n) xs ≡ true → list_all (statement_under (n + 1)) (adjectives_inside xs) ≡ true
inside_under n xs h =
    statements_under (n + 1) (map (shift_adjective 0 1) xs) (Bound 0) (all-map (adjective_under n) (adjective_under (n + 1)) (shift_adjective 0 1) xs (adjective_raised n) h) (index_0 n)

-- the theses
existential_at : (n : ℕ) (r : ExistentialRegistration) → existential_under n r ≡ true → statement_under n (existential r) ≡ true
existential_at n r h =
    let both : (list_all (adjective_under n) r.adjectives ≡ true) × (type_under n r.ty ≡ true) = and_parts (list_all (adjective_under n) r.adjectives) (type_under n r.ty) h in
    for_some_all term_under n r.ty (conjunction (adjectives_inside r.adjectives)) both.1 (conjunction_all term_under (n + 1) (adjectives_inside r.adjectives) (inside_under n r.adjectives both.0))

conditional_at : (n : ℕ) (r : ConditionalRegistration) → conditional_under n r ≡ true → statement_under n (conditional r) ≡ true
conditional_at n r h =
    let t : (list_all (adjective_under n) r.from ≡ true) × (list_all (adjective_under n) r.to ≡ true) × (type_under n r.ty ≡ true) = three (list_all (adjective_under n) r.from) (list_all (adjective_under n) r.to) (type_under n r.ty) h in
    and_from _ _ t.2
    (where_all_all term_under (n + 1) (adjectives_inside r.from) (conjunction (adjectives_inside r.to)) (inside_under n r.from t.0) (conjunction_all term_under (n + 1) (adjectives_inside r.to) (inside_under n r.to t.1)))

under_type_under : (n : ℕ) (ty : Option SoftType) (t : Term) (s : Statement) → type_if_any_under n ty ≡ true → term_under n t ≡ true → statement_under n s ≡ true → statement_under n (under_type ty t s) ≡ true
under_type_under n None t s h k l = l
under_type_under n (Some ty) t s h k l = implication_all term_under n (is_of_type ty t) s (is_of_type_all term_under n ty t h k) l

functorial_at : (n : ℕ) (r : FunctorialRegistration) → functorial_under n r ≡ true → statement_under n (functorial r) ≡ true
functorial_at n r h =
    let t : (term_under n r.term ≡ true) × (list_all (adjective_under n) r.adjectives ≡ true) × (type_if_any_under n r.ty ≡ true) = three (term_under n r.term) (list_all (adjective_under n) r.adjectives) (type_if_any_under n r.ty) h in
    under_type_under n r.ty r.term (conjunction (adjective_statements r.adjectives r.term)) t.2 t.0 (conjunction_all term_under n (adjective_statements r.adjectives r.term) (statements_under n r.adjectives r.term t.1 t.0))

-- a condition that states something states this
abbrev there : Statement → Option Statement
there s = Some s

none_some : (t : Statement) → None ≡ there t → ⊥
none_some t e = cc

same_one : (s t : Statement) → there s ≡ there t → s ≡ t
same_one s t e = cc

this_one : (n : ℕ) (s t : Statement) → there s ≡ there t → statement_under n s ≡ true → statement_under n t ≡ true
this_one n s t e h = subst (λ u. statement_under n u ≡ true) (same_one s t e) h

pub existential_theses : (n : ℕ) (r : ExistentialRegistration) → existential_under n r ≡ true → (c : Condition) (t : Statement) → existential_thesis r c ≡ Some t → statement_under n t ≡ true
existential_theses n r h Existence t e = this_one n (existential r) t e (existential_at n r h)
existential_theses n r h Uniqueness t e = absurd (none_some t e)
existential_theses n r h Coherence t e = absurd (none_some t e)
existential_theses n r h Compatibility t e = absurd (none_some t e)
existential_theses n r h Consistency t e = absurd (none_some t e)
existential_theses n r h Reducibility t e = absurd (none_some t e)

pub conditional_theses : (n : ℕ) (r : ConditionalRegistration) → conditional_under n r ≡ true → (c : Condition) (t : Statement) → conditional_thesis r c ≡ Some t → statement_under n t ≡ true
conditional_theses n r h Existence t e = absurd (none_some t e)
conditional_theses n r h Uniqueness t e = absurd (none_some t e)
conditional_theses n r h Coherence t e = this_one n (conditional r) t e (conditional_at n r h)
conditional_theses n r h Compatibility t e = absurd (none_some t e)
conditional_theses n r h Consistency t e = absurd (none_some t e)
conditional_theses n r h Reducibility t e = absurd (none_some t e)

pub functorial_theses : (n : ℕ) (r : FunctorialRegistration) → functorial_under n r ≡ true → (c : Condition) (t : Statement) → functorial_thesis r c ≡ Some t → statement_under n t ≡ true
functorial_theses n r h Existence t e = absurd (none_some t e)
functorial_theses n r h Uniqueness t e = absurd (none_some t e)
functorial_theses n r h Coherence t e = this_one n (functorial r) t e (functorial_at n r h)
functorial_theses n r h Compatibility t e = absurd (none_some t e)
functorial_theses n r h Consistency t e = absurd (none_some t e)
functorial_theses n r h Reducibility t e = absurd (none_some t e)
