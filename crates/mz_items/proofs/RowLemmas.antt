-- Bodies of rows have no constant, and their free indices are those of the loci.
use Rattle.std.proofs.Common.{◌≡◌, ◌<◌, ◌≤◌, ◌⊎◌, inl, inr, ℕ, zero, suc, ◌+◌, ◌-◌, List, [], ◌∷◌, ◌++◌, map, length, reverse, take, drop, get_or, refl, ap, sym, ◌∙◌, subst, arith, Bool, true, false}
use Rattle.std.specs.Prelude.{◌&&◌, nat_lt, nat_eq, if◌then◌else◌, remove, Option, Some, None}
use Rattle.std.specs.List.{list_all}
use Rattle.std.proofs.lemmas.Bool.{ltb-true, lt-ltb, and_parts, and_from, cases_lt}
use Rattle.std.proofs.lemmas.List.{length-reverse, length-append, length-map, reverse-append}
use mathlib.Core.List.{reverse-cons}
use Rattle.mz_logic.specs.declared.sym.Sym.{Sym}
use Rattle.mz_logic.specs.Term.{Term, Bound, App, terms_of}
use Rattle.mz_logic.specs.declared.literal.Literal.{Literal}
use Rattle.mz_logic.specs.declared.literal.Literal.TheVariants as literal
use Rattle.mz_logic.specs.Substitution.{shift, substitute, value_at}
use Rattle.mz_core.specs.Statement.{Statement, Truth, Eq, Atom, Not, And, For}
use Rattle.mz_core.specs.StatementForms.{opposite, disjunction, implication, equivalence, for_some}
use Rattle.mz_core.specs.TypeShift.{shift_adjective, shift_type, shift_statement}
use Rattle.mz_core.specs.TypeSubstitution.{substitute_type, substitute_literal}
use Rattle.mz_core.specs.Guard.{guard_literals, adjective_literal}
use Rattle.mz_core.specs.Parts.{conjunction, where_all}
use Rattle.mz_core.specs.TypeStatements.{literal_statement, is_of_type, is_of_type_inside}
use Rattle.mz_core.specs.Hidden.{object_type, set_type, is_in}
use Rattle.mz_core.specs.Closed.{term_under, literal_under, adjective_under, type_under, statement_under, loci_under}
use Rattle.mz_core.specs.declared.adjective.Adjective.{Adjective}
use Rattle.mz_core.specs.declared.soft_type.SoftType.{SoftType}
use Rattle.mz_core.specs.declared.formula_definiens.FormulaCase.{FormulaCase}
use Rattle.mz_core.specs.declared.term_definiens.TermCase.{TermCase}
use Rattle.mz_core.specs.declared.formula_definiens.FormulaDefiniens.{FormulaDefiniens}
use Rattle.mz_core.specs.declared.formula_definiens.FormulaDefiniens.TheVariants as formula_definiens
use Rattle.mz_core.specs.declared.term_definiens.TermDefiniens.{TermDefiniens}
use Rattle.mz_core.specs.declared.term_definiens.TermDefiniens.TheVariants as term_definiens
use Rattle.mz_core.proofs.TermMaps.{literal_with, statement_with, type_with, adjective_with}
use Rattle.mz_core.proofs.MapInstances.{shifts, shift_statement-with}
use Rattle.mz_core.proofs.UnderTerms.{term_under-shift, term_under-more, term_under-substitute, args_under-list}
use Rattle.mz_core.proofs.AllLemmas.{Persists, all-map, all-append, all-alone, adjective_all-with, type_all-with, literal_all-with, statement_all-at, statement_all-with, implication_all, disjunction_all, equivalence_all, for_some_all, opposite_all, conjunction_all, where_all_all, adjective_literal_all, guard_literals_all, literal_statement_all, literal_statements_all, is_of_type_all, is_of_type_inside_all, type_all-raised}
use Rattle.mz_items.specs.Loci.{over, inward, variables, term_on, subject_last, predicate_on, attribute_on, mode_on}
use Rattle.mz_items.specs.Cases.{formula_case_condition, formula_case_definiens, term_case_condition, term_case_definiens, otherwise_of, formula_conditions, term_conditions, formula_definientia, term_definientia, implications, conditioned, each_case, formula_cases, term_cases, agree_in_type, agree_as_formulas, agree_as_terms, agreements_in_type, agreements_as_formulas, agreements_as_terms}
use Rattle.mz_items.specs.Closed.{formula_case_under, formula_definiens_under, term_case_under, term_definiens_under}
use Rattle.mz_items.specs.DefinitionRows.{existence, unique, uniqueness, coherence, defining_formula, functor_means, functor_equals, atom_means, mode_type, mode_defining_formula, mode_means}

zero_below : (n : ℕ) → 0 < n + 1
zero_below n = omega arith

one_below : (n : ℕ) → 1 < n + 1 + 1
one_below n = omega arith

-- terms under more binders persist
pub under_persists : Persists term_under
under_persists = record { raised = λ n t h. term_under-shift 0 1 n t h; zero = λ n. lt-ltb 0 (n + 1) (zero_below n) }

-- lists
pub all-reverse : {X : Type 0} (p : X → Bool) (xs : List X) → list_all p xs ≡ true → list_all p (reverse xs) ≡ true
all-reverse p [] h = refl
all-reverse p (x ∷ xs) h =
    let both : (p x ≡ true) × (list_all p xs ≡ true) = and_parts (p x) (list_all p xs) h in
    ap (list_all p) (reverse-cons x xs) ∙ all-append p (reverse xs) (x ∷ []) (all-reverse p xs both.1) (all-alone p x both.0)

all-take : {X : Type 0} (p : X → Bool) (k : ℕ) (xs : List X) → list_all p xs ≡ true → list_all p (take k xs) ≡ true
all-take p zero xs h = refl
all-take p (suc k) [] h = refl
all-take p (suc k) (x ∷ xs) h =
    let both : (p x ≡ true) × (list_all p xs ≡ true) = and_parts (p x) (list_all p xs) h in
    and_from _ _ both.0 (all-take p k xs both.1)

all-drop : {X : Type 0} (p : X → Bool) (k : ℕ) (xs : List X) → list_all p xs ≡ true → list_all p (drop k xs) ≡ true
all-drop p zero xs h = h
all-drop p (suc k) [] h = refl
all-drop p (suc k) (x ∷ xs) h = all-drop p k xs (and_parts (p x) (list_all p xs) h).1

-- loci
pub under_at : (m n : ℕ) (s : Statement) → m ≡ n → statement_under m s ≡ true → statement_under n s ≡ true
under_at m n s e h = statement_all-at term_under m n s e h

pub over_under : (n : ℕ) (loci : List SoftType) (s : Statement) → loci_under n loci ≡ true → statement_under (n + length loci) s ≡ true → statement_under n (over loci s) ≡ true
over_under n [] s h k = let e : n + 0 ≡ n = omega arith in under_at (n + 0) n s e k
over_under n (ty ∷ tys) s h k =
    let both : (type_under n ty ≡ true) × (loci_under (n + 1) tys ≡ true) = and_parts (type_under n ty) (loci_under (n + 1) tys) h in
    let e : n + suc (length tys) ≡ n + 1 + length tys = omega arith in
    and_from _ _ both.0 (over_under (n + 1) tys s both.1 (under_at (n + suc (length tys)) (n + 1 + length tys) s e k))

term_at : (m n : ℕ) (t : Term) → m ≡ n → term_under m t ≡ true → term_under n t ≡ true
term_at m n t e h = let Q : ℕ → Type 0 = λ k. term_under k t ≡ true in subst Q e h

pub inward_under : (n depth count : ℕ) → depth + count ≤ n → list_all (term_under n) (inward depth count) ≡ true
inward_under n depth zero le = refl
inward_under n depth (suc count) le =
    all-append (term_under n) (inward depth count) (Bound (depth + count) ∷ []) (inward_under n depth count (omega arith)) (all-alone (term_under n) (Bound (depth + count)) (lt-ltb (depth + count) n (omega arith)))

pub variables_under : (n depth count : ℕ) → depth + count ≤ n → list_all (term_under n) (variables depth count) ≡ true
variables_under n depth count le = all-reverse (term_under n) (inward depth count) (inward_under n depth count le)

pub loci_variables : (loci : List SoftType) → list_all (term_under (length loci)) (variables 0 (length loci)) ≡ true
loci_variables loci = let le : 0 + length loci ≤ length loci = omega arith in variables_under (length loci) 0 (length loci) le

pub term_on_under : (loci : List SoftType) (s : Sym) → term_under (length loci) (term_on loci s) ≡ true
term_on_under loci s = args_under-list (length loci) (variables 0 (length loci)) (loci_variables loci)

pub predicate_on_under : (loci : List SoftType) (s : Sym) → literal_under (length loci) (predicate_on loci s) ≡ true
predicate_on_under loci s = loci_variables loci

pub attribute_on_under : (loci : List SoftType) (subject : ℕ) (s : Sym) → literal_under (length loci) (attribute_on loci subject s) ≡ true
attribute_on_under loci subject s =
    let vs : List Term = variables 0 (length loci) in
    let h : list_all (term_under (length loci)) vs ≡ true = loci_variables loci in
    all-append (term_under (length loci)) (remove vs subject) (take 1 (drop subject vs))
    (all-append (term_under (length loci)) (take subject vs) (drop (suc subject) vs) (all-take (term_under (length loci)) subject vs h) (all-drop (term_under (length loci)) (suc subject) vs h))
    (all-take (term_under (length loci)) 1 (drop subject vs) (all-drop (term_under (length loci)) subject vs h))

pub mode_on_under : (loci : List SoftType) (s : Sym) → type_under (length loci) (mode_on loci s) ≡ true
mode_on_under loci s = and_from _ _ refl (loci_variables loci)

-- shifts
shift_kept : (by m d : ℕ) (t : Term) → term_under (d + m) t ≡ true → term_under (d + (m + by)) (shift d by t) ≡ true
shift_kept by m d t h =
    let e : d + m + by ≡ d + (m + by) = omega arith in
    term_at (d + m + by) (d + (m + by)) (shift d by t) e (term_under-shift d by (d + m) t h)

pub shift_statement_under : (from by m : ℕ) (s : Statement) → statement_under (from + m) s ≡ true → statement_under (from + (m + by)) (shift_statement from by s) ≡ true
shift_statement_under from by m s h =
    ap (statement_under (from + (m + by))) (shift_statement-with by from s) ∙ statement_all-with term_under term_under (shifts by) m (m + by) from s (λ d t k. shift_kept by m d t k) h

pub shift_outside : (n by : ℕ) (s : Statement) → statement_under n s ≡ true → statement_under (n + by) (shift_statement 0 by s) ≡ true
shift_outside n by s h =
    let before : n ≡ 0 + n = omega arith in
    let after : 0 + (n + by) ≡ n + by = omega arith in
    under_at (0 + (n + by)) (n + by) (shift_statement 0 by s) after (shift_statement_under 0 by n s (under_at n (0 + n) s before h))

pub shift_inside : (n by : ℕ) (s : Statement) → statement_under (n + 1) s ≡ true → statement_under (n + 1 + by) (shift_statement 1 by s) ≡ true
shift_inside n by s h =
    let before : n + 1 ≡ 1 + n = omega arith in
    let after : 1 + (n + by) ≡ n + 1 + by = omega arith in
    under_at (1 + (n + by)) (n + 1 + by) (shift_statement 1 by s) after (shift_statement_under 1 by n s (under_at (n + 1) (1 + n) s before h))

pub shift_type_under : (from by n : ℕ) (ty : SoftType) → type_under n ty ≡ true → type_under (n + by) (shift_type from by ty) ≡ true
shift_type_under from by n ty h = type_all-with term_under term_under n (n + by) (shift from by) ty (λ t k. term_under-shift from by n t k) h

-- cases
opposites_under : (n : ℕ) (ss : List Statement) → list_all (statement_under n) ss ≡ true → list_all (statement_under n) (map opposite ss) ≡ true
opposites_under n ss h = all-map (statement_under n) (statement_under n) opposite ss (λ s k. opposite_all term_under n s ∙ k) h

otherwise_under : (n : ℕ) (cs : List Statement) → list_all (statement_under n) cs ≡ true → list_all (statement_under n) (cs ++ otherwise_of cs ∷ []) ≡ true
otherwise_under n cs h =
    all-append (statement_under n) cs (otherwise_of cs ∷ []) h (all-alone (statement_under n) (otherwise_of cs) (conjunction_all term_under n (map opposite cs) (opposites_under n cs h)))

formula_case_conditions_under : (n inner : ℕ) (cs : List FormulaCase) → list_all (formula_case_under n inner) cs ≡ true → list_all (statement_under n) (map formula_case_condition cs) ≡ true
formula_case_conditions_under n inner cs h =
    all-map (formula_case_under n inner) (statement_under n) formula_case_condition cs (λ c k. (and_parts (statement_under n c.condition) (statement_under inner c.definiens) k).0) h

formula_case_definientia_under : (n inner : ℕ) (cs : List FormulaCase) → list_all (formula_case_under n inner) cs ≡ true → list_all (statement_under inner) (map formula_case_definiens cs) ≡ true
formula_case_definientia_under n inner cs h =
    all-map (formula_case_under n inner) (statement_under inner) formula_case_definiens cs (λ c k. (and_parts (statement_under n c.condition) (statement_under inner c.definiens) k).1) h

pub formula_conditions_under : (n inner : ℕ) (d : FormulaDefiniens) → formula_definiens_under n inner d ≡ true → list_all (statement_under n) (formula_conditions d) ≡ true
formula_conditions_under n inner (formula_definiens.Plain s) h = refl
formula_conditions_under n inner (formula_definiens.Cases cs) h = formula_case_conditions_under n inner cs h
formula_conditions_under n inner (formula_definiens.CasesOtherwise cs s) h =
    let both : (list_all (formula_case_under n inner) cs ≡ true) × (statement_under inner s ≡ true) = and_parts (list_all (formula_case_under n inner) cs) (statement_under inner s) h in
    otherwise_under n (map formula_case_condition cs) (formula_case_conditions_under n inner cs both.0)

pub formula_definientia_under : (n inner : ℕ) (d : FormulaDefiniens) → formula_definiens_under n inner d ≡ true → list_all (statement_under inner) (formula_definientia d) ≡ true
formula_definientia_under n inner (formula_definiens.Plain s) h = all-alone (statement_under inner) s h
formula_definientia_under n inner (formula_definiens.Cases cs) h = formula_case_definientia_under n inner cs h
formula_definientia_under n inner (formula_definiens.CasesOtherwise cs s) h =
    let both : (list_all (formula_case_under n inner) cs ≡ true) × (statement_under inner s ≡ true) = and_parts (list_all (formula_case_under n inner) cs) (statement_under inner s) h in
    all-append (statement_under inner) (map formula_case_definiens cs) (s ∷ []) (formula_case_definientia_under n inner cs both.0) (all-alone (statement_under inner) s both.1)

term_case_conditions_under : (n : ℕ) (cs : List TermCase) → list_all (term_case_under n) cs ≡ true → list_all (statement_under n) (map term_case_condition cs) ≡ true
term_case_conditions_under n cs h =
    all-map (term_case_under n) (statement_under n) term_case_condition cs (λ c k. (and_parts (statement_under n c.condition) (term_under n c.definiens) k).0) h

term_case_definientia_under : (n : ℕ) (cs : List TermCase) → list_all (term_case_under n) cs ≡ true → list_all (term_under n) (map term_case_definiens cs) ≡ true
term_case_definientia_under n cs h =
    all-map (term_case_under n) (term_under n) term_case_definiens cs (λ c k. (and_parts (statement_under n c.condition) (term_under n c.definiens) k).1) h

pub term_conditions_under : (n : ℕ) (d : TermDefiniens) → term_definiens_under n d ≡ true → list_all (statement_under n) (term_conditions d) ≡ true
term_conditions_under n (term_definiens.Plain t) h = refl
term_conditions_under n (term_definiens.Cases cs) h = term_case_conditions_under n cs h
term_conditions_under n (term_definiens.CasesOtherwise cs t) h =
    let both : (list_all (term_case_under n) cs ≡ true) × (term_under n t ≡ true) = and_parts (list_all (term_case_under n) cs) (term_under n t) h in
    otherwise_under n (map term_case_condition cs) (term_case_conditions_under n cs both.0)

pub term_definientia_under : (n : ℕ) (d : TermDefiniens) → term_definiens_under n d ≡ true → list_all (term_under n) (term_definientia d) ≡ true
term_definientia_under n (term_definiens.Plain t) h = all-alone (term_under n) t h
term_definientia_under n (term_definiens.Cases cs) h = term_case_definientia_under n cs h
term_definientia_under n (term_definiens.CasesOtherwise cs t) h =
    let both : (list_all (term_case_under n) cs ≡ true) × (term_under n t ≡ true) = and_parts (list_all (term_case_under n) cs) (term_under n t) h in
    all-append (term_under n) (map term_case_definiens cs) (t ∷ []) (term_case_definientia_under n cs both.0) (all-alone (term_under n) t both.1)

implications_under : (n : ℕ) (cs ss : List Statement) → list_all (statement_under n) cs ≡ true → list_all (statement_under n) ss ≡ true → list_all (statement_under n) (implications cs ss) ≡ true
implications_under n [] ss h k = refl
implications_under n (c ∷ cs) [] h k = refl
implications_under n (c ∷ cs) (s ∷ ss) h k =
    let left : (statement_under n c ≡ true) × (list_all (statement_under n) cs ≡ true) = and_parts (statement_under n c) (list_all (statement_under n) cs) h in
    let right : (statement_under n s ≡ true) × (list_all (statement_under n) ss ≡ true) = and_parts (statement_under n s) (list_all (statement_under n) ss) k in
    and_from _ _ (implication_all term_under n c s left.0 right.0) (implications_under n cs ss left.1 right.1)

conditioned_under : (n : ℕ) (cs ss : List Statement) → list_all (statement_under n) cs ≡ true → list_all (statement_under n) ss ≡ true → list_all (statement_under n) (conditioned cs ss) ≡ true
conditioned_under n [] ss h k = k
conditioned_under n (c ∷ cs) ss h k = implications_under n (c ∷ cs) ss h k

pub each_case_under : (n : ℕ) (cs ss : List Statement) → list_all (statement_under n) cs ≡ true → list_all (statement_under n) ss ≡ true → statement_under n (each_case cs ss) ≡ true
each_case_under n cs ss h k = conjunction_all term_under n (conditioned cs ss) (conditioned_under n cs ss h k)

-- agreements
both_conditions : (n : ℕ) (c d s : Statement) → statement_under n c ≡ true → statement_under n d ≡ true → statement_under n s ≡ true → statement_under n (implication (And c d) s) ≡ true
both_conditions n c d s h k l = implication_all term_under n (And c d) s (and_from _ _ h k) l

agree_in_type_under : (n : ℕ) (ty : SoftType) (c d : FormulaCase) → type_under n ty ≡ true → formula_case_under n (n + 1) c ≡ true → formula_case_under n (n + 1) d ≡ true → statement_under n (agree_in_type ty c d) ≡ true
agree_in_type_under n ty c d t h k =
    let left : (statement_under n c.condition ≡ true) × (statement_under (n + 1) c.definiens ≡ true) = and_parts (statement_under n c.condition) (statement_under (n + 1) c.definiens) h in
    let right : (statement_under n d.condition ≡ true) × (statement_under (n + 1) d.definiens ≡ true) = and_parts (statement_under n d.condition) (statement_under (n + 1) d.definiens) k in
    both_conditions n c.condition d.condition (For ty (equivalence c.definiens d.definiens)) left.0 right.0 (and_from _ _ t (equivalence_all term_under (n + 1) c.definiens d.definiens left.1 right.1))

agree_as_formulas_under : (n : ℕ) (c d : FormulaCase) → formula_case_under n n c ≡ true → formula_case_under n n d ≡ true → statement_under n (agree_as_formulas c d) ≡ true
agree_as_formulas_under n c d h k =
    let left : (statement_under n c.condition ≡ true) × (statement_under n c.definiens ≡ true) = and_parts (statement_under n c.condition) (statement_under n c.definiens) h in
    let right : (statement_under n d.condition ≡ true) × (statement_under n d.definiens ≡ true) = and_parts (statement_under n d.condition) (statement_under n d.definiens) k in
    both_conditions n c.condition d.condition (equivalence c.definiens d.definiens) left.0 right.0 (equivalence_all term_under n c.definiens d.definiens left.1 right.1)

agree_as_terms_under : (n : ℕ) (c d : TermCase) → term_case_under n c ≡ true → term_case_under n d ≡ true → statement_under n (agree_as_terms c d) ≡ true
agree_as_terms_under n c d h k =
    let left : (statement_under n c.condition ≡ true) × (term_under n c.definiens ≡ true) = and_parts (statement_under n c.condition) (term_under n c.definiens) h in
    let right : (statement_under n d.condition ≡ true) × (term_under n d.definiens ≡ true) = and_parts (statement_under n d.condition) (term_under n d.definiens) k in
    both_conditions n c.condition d.condition (Eq c.definiens d.definiens) left.0 right.0 (and_from _ _ left.1 right.1)

pub agreements_in_type_under : (n : ℕ) (ty : SoftType) (cs : List FormulaCase) → type_under n ty ≡ true → list_all (formula_case_under n (n + 1)) cs ≡ true → list_all (statement_under n) (agreements_in_type ty cs) ≡ true
agreements_in_type_under n ty [] t h = refl
agreements_in_type_under n ty (c ∷ cs) t h =
    let both : (formula_case_under n (n + 1) c ≡ true) × (list_all (formula_case_under n (n + 1)) cs ≡ true) = and_parts (formula_case_under n (n + 1) c) (list_all (formula_case_under n (n + 1)) cs) h in
    all-append (statement_under n) (map (agree_in_type ty c) cs) (agreements_in_type ty cs)
    (all-map (formula_case_under n (n + 1)) (statement_under n) (agree_in_type ty c) cs (λ d k. agree_in_type_under n ty c d t both.0 k) both.1)
    (agreements_in_type_under n ty cs t both.1)

pub agreements_as_formulas_under : (n : ℕ) (cs : List FormulaCase) → list_all (formula_case_under n n) cs ≡ true → list_all (statement_under n) (agreements_as_formulas cs) ≡ true
agreements_as_formulas_under n [] h = refl
agreements_as_formulas_under n (c ∷ cs) h =
    let both : (formula_case_under n n c ≡ true) × (list_all (formula_case_under n n) cs ≡ true) = and_parts (formula_case_under n n c) (list_all (formula_case_under n n) cs) h in
    all-append (statement_under n) (map (agree_as_formulas c) cs) (agreements_as_formulas cs)
    (all-map (formula_case_under n n) (statement_under n) (agree_as_formulas c) cs (λ d k. agree_as_formulas_under n c d both.0 k) both.1)
    (agreements_as_formulas_under n cs both.1)

pub agreements_as_terms_under : (n : ℕ) (cs : List TermCase) → list_all (term_case_under n) cs ≡ true → list_all (statement_under n) (agreements_as_terms cs) ≡ true
agreements_as_terms_under n [] h = refl
agreements_as_terms_under n (c ∷ cs) h =
    let both : (term_case_under n c ≡ true) × (list_all (term_case_under n) cs ≡ true) = and_parts (term_case_under n c) (list_all (term_case_under n) cs) h in
    all-append (statement_under n) (map (agree_as_terms c) cs) (agreements_as_terms cs)
    (all-map (term_case_under n) (statement_under n) (agree_as_terms c) cs (λ d k. agree_as_terms_under n c d both.0 k) both.1)
    (agreements_as_terms_under n cs both.1)

pub formula_cases_under : (n inner : ℕ) (d : FormulaDefiniens) → formula_definiens_under n inner d ≡ true → list_all (formula_case_under n inner) (formula_cases d) ≡ true
formula_cases_under n inner (formula_definiens.Plain s) h = refl
formula_cases_under n inner (formula_definiens.Cases cs) h = h
formula_cases_under n inner (formula_definiens.CasesOtherwise cs s) h = (and_parts (list_all (formula_case_under n inner) cs) (statement_under inner s) h).0

pub term_cases_under : (n : ℕ) (d : TermDefiniens) → term_definiens_under n d ≡ true → list_all (term_case_under n) (term_cases d) ≡ true
term_cases_under n (term_definiens.Plain t) h = refl
term_cases_under n (term_definiens.Cases cs) h = h
term_cases_under n (term_definiens.CasesOtherwise cs t) h = (and_parts (list_all (term_case_under n) cs) (term_under n t) h).0

-- rows of definitions
cases_of : (n inner : ℕ) (d : FormulaDefiniens) (row : Statement → Statement) → formula_definiens_under n inner d ≡ true → ((s : Statement) → statement_under inner s ≡ true → statement_under n (row s) ≡ true) → statement_under n (each_case (formula_conditions d) (map row (formula_definientia d))) ≡ true
cases_of n inner d row h each =
    each_case_under n (formula_conditions d) (map row (formula_definientia d)) (formula_conditions_under n inner d h) (all-map (statement_under inner) (statement_under n) row (formula_definientia d) each (formula_definientia_under n inner d h))

cases_of_terms : (n : ℕ) (d : TermDefiniens) (row : Term → Statement) → term_definiens_under n d ≡ true → ((t : Term) → term_under n t ≡ true → statement_under n (row t) ≡ true) → statement_under n (each_case (term_conditions d) (map row (term_definientia d))) ≡ true
cases_of_terms n d row h each =
    each_case_under n (term_conditions d) (map row (term_definientia d)) (term_conditions_under n d h) (all-map (term_under n) (statement_under n) row (term_definientia d) each (term_definientia_under n d h))

pub existence_under : (n : ℕ) (ty : SoftType) (d : FormulaDefiniens) → type_under n ty ≡ true → formula_definiens_under n (n + 1) d ≡ true → statement_under n (existence ty d) ≡ true
existence_under n ty d t h = cases_of n (n + 1) d (for_some ty) h (λ s k. for_some_all term_under n ty s t k)

unique_under : (n : ℕ) (ty : SoftType) (s : Statement) → type_under n ty ≡ true → statement_under (n + 1) s ≡ true → statement_under n (unique ty s) ≡ true
unique_under n ty s t h =
    let outer : statement_under (n + 1 + 1) (shift_statement 0 1 s) ≡ true = shift_outside (n + 1) 1 s h in
    let inner : statement_under (n + 1 + 1) (shift_statement 1 1 s) ≡ true = shift_inside n 1 s h in
    let one : nat_lt 1 (n + 1 + 1) ≡ true = lt-ltb 1 (n + 1 + 1) (one_below n) in
    let none : nat_lt 0 (n + 1 + 1) ≡ true = lt-ltb 0 (n + 1 + 1) (zero_below (n + 1)) in
    and_from _ _ t
    (and_from _ _ (shift_type_under 0 1 n ty t)
    (implication_all term_under (n + 1 + 1) (And (shift_statement 0 1 s) (shift_statement 1 1 s)) (Eq (Bound 1) (Bound 0)) (and_from _ _ outer inner) (and_from _ _ one none)))

pub uniqueness_under : (n : ℕ) (ty : SoftType) (d : FormulaDefiniens) → type_under n ty ≡ true → formula_definiens_under n (n + 1) d ≡ true → statement_under n (uniqueness ty d) ≡ true
uniqueness_under n ty d t h = cases_of n (n + 1) d (unique ty) h (λ s k. unique_under n ty s t k)

pub coherence_under : (n : ℕ) (ty : SoftType) (d : TermDefiniens) → type_under n ty ≡ true → term_definiens_under n d ≡ true → statement_under n (coherence ty d) ≡ true
coherence_under n ty d t h = cases_of_terms n d (is_of_type ty) h (λ u k. is_of_type_all term_under n ty u t k)

defining_under : (n : ℕ) (term : Term) (ty : SoftType) (s : Statement) → term_under n term ≡ true → type_under n ty ≡ true → statement_under (n + 1) s ≡ true → statement_under n (defining_formula term ty s) ≡ true
defining_under n term ty s k t h =
    let none : nat_lt 0 (n + 1) ≡ true = lt-ltb 0 (n + 1) (zero_below n) in
    and_from _ _ t (equivalence_all term_under (n + 1) (Eq (Bound 0) (shift 0 1 term)) s (and_from _ _ none (term_under-shift 0 1 n term k)) h)

pub functor_means_under : (n : ℕ) (term : Term) (ty : SoftType) (d : FormulaDefiniens) → term_under n term ≡ true → type_under n ty ≡ true → formula_definiens_under n (n + 1) d ≡ true → statement_under n (functor_means term ty d) ≡ true
functor_means_under n term ty d k t h = cases_of n (n + 1) d (defining_formula term ty) h (λ s l. defining_under n term ty s k t l)

pub functor_equals_under : (n : ℕ) (term : Term) (d : TermDefiniens) → term_under n term ≡ true → term_definiens_under n d ≡ true → statement_under n (functor_equals term d) ≡ true
functor_equals_under n term d k h = cases_of_terms n d (Eq term) h (λ u l. and_from _ _ k l)

pub atom_means_under : (n : ℕ) (s : Statement) (d : FormulaDefiniens) → statement_under n s ≡ true → formula_definiens_under n n d ≡ true → statement_under n (atom_means s d) ≡ true
atom_means_under n s d k h = cases_of n n d (equivalence s) h (λ r l. equivalence_all term_under n s r k l)

pub mode_type_under : (n : ℕ) (mode ty : SoftType) → type_under n mode ≡ true → type_under n ty ≡ true → statement_under n (mode_type mode ty) ≡ true
mode_type_under n mode ty h t = and_from _ _ h (is_of_type_inside_all term_under n ty under_persists t)

mode_defining_under : (n : ℕ) (mode ty : SoftType) (s : Statement) → type_under n mode ≡ true → type_under n ty ≡ true → statement_under (n + 1) s ≡ true → statement_under n (mode_defining_formula mode ty s) ≡ true
mode_defining_under n mode ty s h t k =
    and_from _ _ t (equivalence_all term_under (n + 1) (is_of_type_inside mode) s (is_of_type_inside_all term_under n mode under_persists h) k)

pub mode_means_under : (n : ℕ) (mode ty : SoftType) (d : FormulaDefiniens) → type_under n mode ≡ true → type_under n ty ≡ true → formula_definiens_under n (n + 1) d ≡ true → statement_under n (mode_means mode ty d) ≡ true
mode_means_under n mode ty d h t k = cases_of n (n + 1) d (mode_defining_formula mode ty) k (λ s l. mode_defining_under n mode ty s h t l)
