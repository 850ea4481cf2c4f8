-- Objects of existentials, and existentials of objects.
use Rattle.std.proofs.Common.{◌≡◌, ◌+◌, ℕ, Bool, true, false, List, [], ◌∷◌, ◌++◌, map, append-nil, append_assoc, refl, sym, ap, ◌∙◌, subst, arith}
use Rattle.std.specs.Prelude.{if◌then◌else◌}
use Rattle.std.specs.List.{list_all}
use Rattle.std.proofs.lemmas.Bool.{false≢true, and_parts}
use Rattle.std.proofs.lemmas.List.{map-append}
use Rattle.mz_logic.specs.Term.{Term, Bound, Const}
use Rattle.mz_logic.specs.Formula as formula
use Rattle.mz_logic.specs.Formula.{Formula}
use Rattle.mz_logic.specs.Literal.{literal_formula}
use Rattle.mz_logic.specs.declared.literal.Literal.{Literal}
use Rattle.mz_logic.specs.declared.literal.Literal.TheVariants.{Atom}
use Rattle.mz_logic.specs.Negation.{negated}
use Rattle.mz_logic.specs.Connectives.{joined_to}
use Rattle.mz_logic.specs.Substitution.{shift, substitute_formula, value_at, body_at}
use Rattle.mz_logic.specs.Derives.{Derives}
use Rattle.mz_logic.proofs.Rules.{truth, and_left, and_right}
use Rattle.mz_logic.proofs.Connectives.{first, twice_out}
use Rattle.mz_logic.proofs.ValueLaws.{substitute_formula-one_others}
use Rattle.mz_logic.proofs.Each.{Each, Along, each_itself, each_under, along_append, joined_to_out, negated_out, not_all_out}
use Rattle.mz_core.specs.Statement.{Statement, Truth, Not}
use Rattle.mz_core.specs.StatementForms.{opposite, for_some}
use Rattle.mz_core.specs.Hidden.{is_of_any_object}
use Rattle.mz_core.specs.Parts.{conjunction}
use Rattle.mz_core.specs.Guard.{guard, radix_literals, adjective_literal}
use Rattle.mz_core.specs.Connectives.{where_guard, guard_inside}
use Rattle.mz_core.specs.TypeShift.{shift_adjective, shift_type}
use Rattle.mz_core.specs.TypeStatements.{literal_statement}
use Rattle.mz_core.specs.Erasure.{erase}
use Rattle.mz_core.specs.Closed.{term_under, adjective_under, type_under}
use Rattle.mz_core.specs.Everywhere.{adjective_all, statement_all}
use Rattle.mz_core.specs.InForce.{term_in_force, formula_in_force, statement_in_force}
use Rattle.mz_core.specs.declared.adjective.Adjective.{Adjective}
use Rattle.mz_core.specs.declared.soft_type.SoftType.{SoftType}
use Rattle.mz_core.specs.declared.registration.ExistentialRegistration.{ExistentialRegistration}
use Rattle.mz_core.proofs.AllLemmas.{all-map, adjective_all-with, for_some_all, conjunction_all, adjective_literal_all, literal_statement_all}
use Rattle.mz_core.proofs.LawProofs.{in_force_at, statement_in_force-all, erasure_in_force}
use Rattle.mz_laws.proofs.StatementProofs.{term_shift_in_force, formula_substitution_in_force}
use Rattle.mz_items.specs.Closed.{existential_under}
use Rattle.mz_items.specs.RegistrationRows.{adjective_statement, adjective_statements, adjectives_inside, existential}
use Rattle.mz_clauses.specs.Guards.{guard_at_object, adjective_literals, adjectives_at_object}
use Rattle.mz_clause_laws.proofs.Instances.{formulas_at, formulas_at-append, where_at}
use Rattle.mz_clause_laws.proofs.Literals.{literals_out}
use Rattle.mz_clause_laws.proofs.PropertyProofs.{opposite_at}
use Rattle.mz_fits.specs.Fits.{type_at}
use Rattle.mz_chain_laws.proofs.Fired.{guard_at_term}
use Rattle.mz_choice.specs.Cover.{bare, registered_type}
use Rattle.mz_choice_laws.proofs.KnownTerms.{term_known-under, term_known-in_force}
use Rattle.mz_choice_laws.proofs.KnownValues.{type_all-where}
use Rattle.mz_thesis_laws.specs.RowLaws.{AreInForce}
use Rattle.mz_thesis_laws.proofs.RowProofs.{new_in, new_in_all, take_guarded}
use Rattle.mz_thesis_laws.proofs.StatementProofs.{not_negated_out}
use Rattle.mz_cover_laws.specs.Inhabited.{there_is}

-- what fails under a guard: the guard holds and it fails
not_where_out : (ax h gs : List Formula) (f : Formula) → Derives ax h (formula.Not (where_guard gs f)) → Along ax h gs × Derives ax h (formula.Not f)
not_where_out ax h [] f d = (tt, d)
not_where_out ax h (k ∷ ks) f d =
    let a : Formula = joined_to k ks in
    let both : Derives ax h (formula.And a (negated f)) = twice_out ax h (formula.And a (negated f)) d in
    (joined_to_out ax h k ks (and_left ax h a (negated f) both), negated_out ax h f (and_right ax h a (negated f) both))

-- an object of a type
pub taken : (ax g : List Formula) (ty : SoftType) (n : ℕ) → Each ax g (guard ty (Const n)) → Derives ax g (erase (there_is ty))
taken ax g ty n each = take_guarded ax g ty (Not Truth) (Const n) refl each (truth ax g)

none_asked : (ax g : List Formula) (b : Bool) (ls : List Literal) → b ≡ true → Along ax g (map literal_formula ((if b then [] else ls) ++ []))
none_asked ax g true ls h = tt
none_asked ax g false ls h = absurd (false≢true h)

pub any_object : (ax g : List Formula) (ty : SoftType) (t : Term) → is_of_any_object ty.radix.sym ≡ true → Along ax g (guard (bare ty) t)
any_object ax g ty t h = none_asked ax g (is_of_any_object ty.radix.sym) (Atom true ty.radix.sym (ty.radix.args ++ t ∷ []) ∷ []) h

-- a guard from its radix and its adjectives
pub whole_guard : (ax h : List Formula) (ty : SoftType) (t : Term) → Along ax h (guard (bare ty) t) → Along ax h (map literal_formula (map (adjective_literal t) ty.adjectives)) → Along ax h (guard ty t)
whole_guard ax h ty t a b =
    subst (Along ax h) (sym (map-append literal_formula (radix_literals ty.radix t) (map (adjective_literal t) ty.adjectives)))
    (along_append ax h (map literal_formula (radix_literals ty.radix t)) (map literal_formula (map (adjective_literal t) ty.adjectives))
    (subst (λ (ls : List Literal). Along ax h (map literal_formula ls)) (append-nil (radix_literals ty.radix t)) a) b)

-- what a registration states has no constant
abbrev nothing : ℕ → Bool
nothing k = false

pub under_in_force : (next n : ℕ) (t : Term) → term_under n t ≡ true → term_in_force next t ≡ true
under_in_force next n t h = term_known-in_force nothing next (λ c e. absurd (false≢true e)) n t (term_known-under nothing n t h)

raised_in_force : (next : ℕ) (t : Term) → term_in_force next t ≡ true → term_in_force next (shift 0 1 t) ≡ true
raised_in_force next t h = term_shift_in_force next 0 1 t ∙ h

inside_in_force : (next m n : ℕ) (xs : List Adjective) → list_all (adjective_under m) xs ≡ true → list_all (statement_all (in_force_at next) n) (adjectives_inside xs) ≡ true
inside_in_force next m n xs h =
    all-map (adjective_all (in_force_at next) n) (statement_all (in_force_at next) n) (adjective_statement (Bound 0)) (map (shift_adjective 0 1) xs)
    (λ a k. literal_statement_all (in_force_at next) n (adjective_literal (Bound 0) a) (adjective_literal_all (in_force_at next) n (Bound 0) a refl k))
    (all-map (adjective_under m) (adjective_all (in_force_at next) n) (shift_adjective 0 1) xs
    (λ a k. adjective_all-with term_under (in_force_at next) m n (shift 0 1) a (λ t l. raised_in_force next t (under_in_force next m t l)) k) h)

existential_in_force : (next m : ℕ) (r : ExistentialRegistration) → existential_under m r ≡ true → statement_in_force next (existential r) ≡ true
existential_in_force next m r h =
    let both : (list_all (adjective_under m) r.adjectives ≡ true) × (type_under m r.ty ≡ true) = and_parts (list_all (adjective_under m) r.adjectives) (type_under m r.ty) h in
    statement_in_force-all next 0 (existential r) ∙
    for_some_all (in_force_at next) 0 r.ty (conjunction (adjectives_inside r.adjectives))
    (type_all-where term_under (in_force_at next) m r.ty (λ t k. under_in_force next m t k) both.1)
    (conjunction_all (in_force_at next) (0 + 1) (adjectives_inside r.adjectives) (inside_in_force next m (0 + 1) r.adjectives both.0))

-- the guard of the registered type in parts
adjectives_are : (xs : List Adjective) (t : Term) → adjective_statements xs t ≡ map literal_statement (adjective_literals xs t)
adjectives_are [] t = refl
adjectives_are (a ∷ xs) t = λ i. literal_statement (adjective_literal t a) ∷ adjectives_are xs t i

registered_object : (r : ExistentialRegistration) → guard_at_object (registered_type r) ≡ guard_at_object r.ty ++ adjectives_at_object r.adjectives
registered_object r =
    let radix : List Literal = radix_literals (shift_type 0 1 r.ty).radix (Bound 0) in
    let xs : List Adjective = map (shift_adjective 0 1) r.ty.adjectives in
    let ys : List Adjective = map (shift_adjective 0 1) r.adjectives in
    ap (λ zs. radix ++ map (adjective_literal (Bound 0)) zs) (map-append (shift_adjective 0 1) r.ty.adjectives r.adjectives) ∙
    ap (λ ls. radix ++ ls) (map-append (adjective_literal (Bound 0)) xs ys) ∙
    sym (append_assoc radix (map (adjective_literal (Bound 0)) xs) (map (adjective_literal (Bound 0)) ys))

-- an object of an existential at values, which has no constant from n on: its type's guard and what is said hold there
pub some_out : (ax g : List Formula) (n : ℕ) (vs : List Term) (ty : SoftType) (b : Statement) (k : Formula) → AreInForce n g → ((i : ℕ) → term_in_force n (value_at vs i) ≡ true) → statement_in_force n (for_some ty b) ≡ true → formula_in_force n k ≡ true →
    Derives ax g (substitute_formula 0 (value_at vs) (erase (for_some ty b))) →
    ((h : List Formula) → Each ax h g → Along ax h (map (substitute_formula 0 (value_at (Const n ∷ vs))) (guard_inside ty)) → Derives ax h (substitute_formula 0 (value_at (Const n ∷ vs)) (erase b)) → Derives ax h k) → Derives ax g k
some_out ax g n vs ty b k in_g in_vs in_some in_k d f =
    let e : Formula = erase (opposite b) in
    let gi : List Formula = guard_inside ty in
    let body : Formula = substitute_formula 1 (value_at vs) (where_guard gi e) in
    let in_body : formula_in_force n body ≡ true = formula_substitution_in_force n 1 (value_at vs) (where_guard gi e) in_vs (erasure_in_force n (for_some ty b) in_some) in
    let v : ℕ → Term = value_at (Const n ∷ vs) in
    let h : List Formula = formula.Not (body_at body (Const n)) ∷ g in
    let at : body_at body (Const n) ≡ where_guard (map (substitute_formula 0 v) gi) (substitute_formula 0 v e) =
    substitute_formula-one_others 0 (Const n) vs (where_guard gi e) ∙ where_at v gi e in
    let both : Along ax h (map (substitute_formula 0 v) gi) × Derives ax h (formula.Not (substitute_formula 0 v e)) =
    not_where_out ax h (map (substitute_formula 0 v) gi) (substitute_formula 0 v e)
    (subst (λ x. Derives ax h (formula.Not x)) at (first ax g (formula.Not (body_at body (Const n))))) in
    let holds : Derives ax h (substitute_formula 0 v (erase b)) =
    not_negated_out ax h (substitute_formula 0 v (erase b)) (subst (λ x. Derives ax h (formula.Not x)) (opposite_at v b) both.1) in
    not_all_out ax g body k n (new_in_all n n g (omega arith) in_g) (new_in n n body (omega arith) in_body) (new_in n n k (omega arith) in_k) d
    (f h (each_under ax g g (formula.Not (body_at body (Const n))) (each_itself ax g)) both.0 holds)

-- so one of what a registration states is of the registered type
pub registered_out : (ax g : List Formula) (n m : ℕ) (vs : List Term) (r : ExistentialRegistration) (k : Formula) → AreInForce n g → ((i : ℕ) → term_in_force n (value_at vs i) ≡ true) → existential_under m r ≡ true → formula_in_force n k ≡ true →
    Derives ax g (substitute_formula 0 (value_at vs) (erase (existential r))) →
    ((h : List Formula) → Each ax h g → Along ax h (guard (type_at vs (registered_type r)) (Const n)) → Along ax h (guard (type_at vs r.ty) (Const n)) → Derives ax h k) → Derives ax g k
registered_out ax g n m vs r k in_g in_vs under_m in_k d f =
    let ts : List Term = Const n ∷ vs in
    some_out ax g n vs r.ty (conjunction (adjectives_inside r.adjectives)) k in_g in_vs (existential_in_force n m r under_m) in_k d
    (λ h each guards holds.
    let adjectives : Along ax h (formulas_at ts (adjectives_at_object r.adjectives)) =
    literals_out ax h ts (adjectives_at_object r.adjectives)
    (subst (λ ss. Derives ax h (substitute_formula 0 (value_at ts) (erase (conjunction ss)))) (adjectives_are (map (shift_adjective 0 1) r.adjectives) (Bound 0)) holds) in
    let parts : Along ax h (formulas_at ts (guard_at_object r.ty ++ adjectives_at_object r.adjectives)) =
    subst (Along ax h) (sym (formulas_at-append ts (guard_at_object r.ty) (adjectives_at_object r.adjectives)))
    (along_append ax h (formulas_at ts (guard_at_object r.ty)) (formulas_at ts (adjectives_at_object r.adjectives)) guards adjectives) in
    let whole : Along ax h (formulas_at ts (guard_at_object (registered_type r))) = subst (λ (ls : List Literal). Along ax h (formulas_at ts ls)) (sym (registered_object r)) parts in
    f h each (subst (Along ax h) (guard_at_term (Const n) vs (registered_type r)) whole) (subst (Along ax h) (guard_at_term (Const n) vs r.ty) guards))
