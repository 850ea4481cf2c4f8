-- Proofs of the laws of types and statements.
use Rattle.std.proofs.Common.{◌≡◌, ℕ, ◌+◌, List, [], ◌∷◌, map, refl, ap, sym, ◌∙◌, arith, Bool, true, false}
use Rattle.std.specs.Prelude.{◌&&◌, not}
use Rattle.std.specs.List.{list_all, list_any}
use Rattle.std.proofs.lemmas.Bool.{and_parts, and_from, or_from, not-true, not_from_false}
use Rattle.mz_logic.specs.Term.{Term, Bound, Const}
use Rattle.mz_logic.specs.Formula as formula
use Rattle.mz_logic.specs.Formula.{Formula}
use Rattle.mz_logic.specs.Indices.{is_below, formula_below}
use Rattle.mz_logic.specs.Constants.{occurs, occurs_in_formula}
use Rattle.mz_logic.specs.Substitution.{shift, substitute, substitute_formula, value_at}
use Rattle.mz_logic.specs.Abstraction.{term_over}
use Rattle.mz_logic.proofs.ShiftLaws.{shift-zero, is_below-shift, occurs-shift}
use Rattle.mz_logic.proofs.SubstitutionLaws.{is_below-substitute}
use Rattle.mz_logic.proofs.ValueLaws.{substitute-past, substitute-one_equal}
use Rattle.mz_logic.proofs.AbstractionLaws.{term_over-substitute, occurs-term_over}
use Rattle.mz_core.specs.Statement.{Statement, Truth, Eq, Atom, Not, And, For}
use Rattle.mz_core.specs.TypeShift.{shift_adjective, shift_type}
use Rattle.mz_core.specs.TypeSubstitution.{substitute_statement, statement_at}
use Rattle.mz_core.specs.Guard.{guard}
use Rattle.mz_core.specs.Connectives.{guard_inside, where_guard}
use Rattle.mz_core.specs.Erasure.{erase}
use Rattle.mz_core.specs.InForce.{term_in_force, formula_in_force, adjective_in_force, statement_in_force}
use Rattle.mz_core.specs.Everywhere.{adjective_all, type_all, statement_all, formula_all}
use Rattle.mz_core.specs.declared.adjective.Adjective.{Adjective}
use Rattle.mz_core.proofs.TermMaps.{statement_with, formula_with, where_guard-with}
use Rattle.mz_core.proofs.MapInstances.{shifts, substitutes, abstracts, shift_statement-with, substitute_statement-with, substitute_formula-with, statement_over-with}
use Rattle.mz_core.proofs.AllLemmas.{Persists, all-map, type_all-with, statement_all-with, guard_all, erase_all}
use Rattle.mz_core.proofs.LawProofs.{erasure_of_body, guard_of_substitution, map_is, type_back, statement_back, any_term, type_any, statement_any, in_force_at, term_in_force-shift, term_in_force-more, in_force_changed, term_in_force-substitute, term_in_force-over, term_apart, statement_in_force-all, below_at, all_is, formula_below-all}
use Rattle.mz_laws.specs.Lacking.{term_lacks}
use Rattle.mz_laws.specs.StatementLaws.{TermShiftInForce, TypeShiftInForce, FormulaShiftInForce, StatementShiftInForce, TermSubstitutionInForce, TypeSubstitutionInForce, FormulaSubstitutionInForce, StatementSubstitutionInForce, MoreTermInForce, MoreTypeInForce, MoreFormulaInForce, TypeAbstractionInForce, TypeUnderQuantifier, GuardAtTerm, BodyUnderGuard, TypeShiftBelow, StatementShiftBelow, TypeSubstitutionBelow, StatementSubstitutionBelow, GuardBelow, AbstractionOfBodyLacking, NextLacking, AbstractionLacking, ErasureLacking}

-- lists
all_unchanged : {X : Type 0} (p : X → Bool) (h : X → X) (xs : List X) → ((x : X) → p (h x) ≡ p x) → list_all p (map h xs) ≡ list_all p xs
all_unchanged p h [] same = refl
all_unchanged p h (x ∷ xs) same = λ i. same x i && all_unchanged p h xs same i

all_weaker : {X : Type 0} (p q : X → Bool) (xs : List X) → ((x : X) → p x ≡ true → q x ≡ true) → list_all p xs ≡ true → list_all q xs ≡ true
all_weaker p q [] each h = refl
all_weaker p q (x ∷ xs) each h =
    let both : (p x ≡ true) × (list_all p xs ≡ true) = and_parts (p x) (list_all p xs) h in
    and_from _ _ (each x both.0) (all_weaker p q xs each both.1)

-- shifts
pub term_shift_in_force : TermShiftInForce
term_shift_in_force next from by t = term_in_force-shift next from by t

adjective_shift_in_force : (next from by : ℕ) (a : Adjective) → adjective_in_force next (shift_adjective from by a) ≡ adjective_in_force next a
adjective_shift_in_force next from by a = all_unchanged (term_in_force next) (shift from by) a.args (term_in_force-shift next from by)

pub type_shift_in_force : TypeShiftInForce
type_shift_in_force next from by ty =
    λ i. all_unchanged (adjective_in_force next) (shift_adjective from by) ty.adjectives (adjective_shift_in_force next from by) i && all_unchanged (term_in_force next) (shift from by) ty.radix.args (term_in_force-shift next from by) i

pub formula_shift_in_force : FormulaShiftInForce
formula_shift_in_force next from by formula.Truth = refl
formula_shift_in_force next from by (formula.Eq t u) = λ i. term_in_force-shift next from by t i && term_in_force-shift next from by u i
formula_shift_in_force next from by (formula.Atom s ts) = all_unchanged (term_in_force next) (shift from by) ts (term_in_force-shift next from by)
formula_shift_in_force next from by (formula.Not f) = formula_shift_in_force next from by f
formula_shift_in_force next from by (formula.And f g) = λ i. formula_shift_in_force next from by f i && formula_shift_in_force next from by g i
formula_shift_in_force next from by (formula.All f) = formula_shift_in_force next (from + 1) by f

pub statement_shift_in_force : StatementShiftInForce
statement_shift_in_force next from by Truth = refl
statement_shift_in_force next from by (Eq t u) = λ i. term_in_force-shift next from by t i && term_in_force-shift next from by u i
statement_shift_in_force next from by (Atom s ts) = all_unchanged (term_in_force next) (shift from by) ts (term_in_force-shift next from by)
statement_shift_in_force next from by (Not s) = statement_shift_in_force next from by s
statement_shift_in_force next from by (And s t) = λ i. statement_shift_in_force next from by s i && statement_shift_in_force next from by t i
statement_shift_in_force next from by (For ty s) = λ i. type_shift_in_force next from by ty i && statement_shift_in_force next (from + 1) by s i

-- substitution
pub term_substitution_in_force : TermSubstitutionInForce
term_substitution_in_force next depth v t vs h = term_in_force-substitute next depth v t vs h

pub type_substitution_in_force : TypeSubstitutionInForce
type_substitution_in_force next depth v ty vs h =
    type_all-with (in_force_at next) (in_force_at next) 0 0 (substitute depth v) ty (λ t k. term_in_force-substitute next depth v t vs k) h

pub formula_substitution_in_force : FormulaSubstitutionInForce
formula_substitution_in_force next depth v formula.Truth vs h = refl
formula_substitution_in_force next depth v (formula.Eq t u) vs h =
    let both : (term_in_force next t ≡ true) × (term_in_force next u ≡ true) = and_parts (term_in_force next t) (term_in_force next u) h in
    and_from _ _ (term_in_force-substitute next depth v t vs both.0) (term_in_force-substitute next depth v u vs both.1)
formula_substitution_in_force next depth v (formula.Atom s ts) vs h =
    all-map (term_in_force next) (term_in_force next) (substitute depth v) ts (λ t k. term_in_force-substitute next depth v t vs k) h
formula_substitution_in_force next depth v (formula.Not f) vs h = formula_substitution_in_force next depth v f vs h
formula_substitution_in_force next depth v (formula.And f g) vs h =
    let both : (formula_in_force next f ≡ true) × (formula_in_force next g ≡ true) = and_parts (formula_in_force next f) (formula_in_force next g) h in
    and_from _ _ (formula_substitution_in_force next depth v f vs both.0) (formula_substitution_in_force next depth v g vs both.1)
formula_substitution_in_force next depth v (formula.All f) vs h = formula_substitution_in_force next (depth + 1) v f vs h

pub statement_substitution_in_force : StatementSubstitutionInForce
statement_substitution_in_force next depth v s vs h =
    ap (statement_in_force next) (substitute_statement-with v depth s) ∙
    in_force_changed (substitutes v) next next depth s (λ d u k. term_in_force-substitute next d v u vs k) h

-- more constants
pub more_term_in_force : MoreTermInForce
more_term_in_force m n t le h = term_in_force-more m n t le h

pub more_type_in_force : MoreTypeInForce
more_type_in_force m n ty le h =
    let both : (list_all (adjective_in_force m) ty.adjectives ≡ true) × (list_all (term_in_force m) ty.radix.args ≡ true) = and_parts (list_all (adjective_in_force m) ty.adjectives) (list_all (term_in_force m) ty.radix.args) h in
    and_from _ _
    (all_weaker (adjective_in_force m) (adjective_in_force n) ty.adjectives (λ a k. all_weaker (term_in_force m) (term_in_force n) a.args (λ t l. term_in_force-more m n t le l) k) both.0)
    (all_weaker (term_in_force m) (term_in_force n) ty.radix.args (λ t l. term_in_force-more m n t le l) both.1)

pub more_formula_in_force : MoreFormulaInForce
more_formula_in_force m n formula.Truth le h = refl
more_formula_in_force m n (formula.Eq t u) le h =
    let both : (term_in_force m t ≡ true) × (term_in_force m u ≡ true) = and_parts (term_in_force m t) (term_in_force m u) h in
    and_from _ _ (term_in_force-more m n t le both.0) (term_in_force-more m n u le both.1)
more_formula_in_force m n (formula.Atom s ts) le h = all_weaker (term_in_force m) (term_in_force n) ts (λ t l. term_in_force-more m n t le l) h
more_formula_in_force m n (formula.Not f) le h = more_formula_in_force m n f le h
more_formula_in_force m n (formula.And f g) le h =
    let both : (formula_in_force m f ≡ true) × (formula_in_force m g ≡ true) = and_parts (formula_in_force m f) (formula_in_force m g) h in
    and_from _ _ (more_formula_in_force m n f le both.0) (more_formula_in_force m n g le both.1)
more_formula_in_force m n (formula.All f) le h = more_formula_in_force m n f le h

pub type_abstraction_in_force : TypeAbstractionInForce
type_abstraction_in_force c depth ty h =
    type_all-with (in_force_at (c + 1)) (in_force_at c) 0 0 (term_over c depth) ty (λ t k. term_in_force-over c depth t k) h

-- a typed quantifier at a term
pub type_under_quantifier : TypeUnderQuantifier
type_under_quantifier ty t =
    type_back (substitute 0 (value_at (t ∷ []))) (shift 0 1) any_term 0 ty (λ u k. substitute-past 0 (t ∷ []) u) (type_any 0 ty)

at_index : (t : Term) → substitute 0 (value_at (t ∷ [])) (Bound 0) ≡ t
at_index t = substitute-one_equal 0 t 0 refl ∙ shift-zero 0 t

pub guard_at_term : GuardAtTerm
guard_at_term ty t =
    guard_of_substitution 0 (value_at (t ∷ [])) (shift_type 0 1 ty) (Bound 0) ∙ (λ i. guard (type_under_quantifier ty t i) (at_index t i))

pub body_under_guard : BodyUnderGuard
body_under_guard ty s t =
    let v : ℕ → Term = value_at (t ∷ []) in
    let changed : (f : Formula) → substitute_formula 0 v f ≡ formula_with (substitutes v) 0 f = λ f. substitute_formula-with v 0 f in
    let guards : map (formula_with (substitutes v) 0) (guard_inside ty) ≡ guard ty t = sym (map_is (substitute_formula 0 v) (formula_with (substitutes v) 0) (guard_inside ty) changed) ∙ guard_at_term ty t in
    let inner : formula_with (substitutes v) 0 (erase s) ≡ erase (statement_at s t) = sym (changed (erase s)) ∙ sym (erasure_of_body s t) in
    changed (where_guard (guard_inside ty) (erase s)) ∙
    (where_guard-with (substitutes v) 0 (guard_inside ty) (erase s) ∙ (λ i. where_guard (guards i) (inner i)))

-- free indices
pub type_shift_below : TypeShiftBelow
type_shift_below from by n ty h = type_all-with is_below is_below n (n + by) (shift from by) ty (λ t b. is_below-shift from by n t b) h

shift_at : (d by n : ℕ) (t : Term) → is_below (d + n) t ≡ true → is_below (d + (n + by)) (shift d by t) ≡ true
shift_at d by n t b =
    let sum : d + n + by ≡ d + (n + by) = omega arith in
    below_at (d + n + by) (d + (n + by)) (shift d by t) sum (is_below-shift d by (d + n) t b)

pub statement_shift_below : StatementShiftBelow
statement_shift_below from by n s h =
    ap (statement_all is_below (from + (n + by))) (shift_statement-with by from s) ∙
    statement_all-with is_below is_below (shifts by) n (n + by) from s (λ d t b. shift_at d by n t b) h

pub type_substitution_below : TypeSubstitutionBelow
type_substitution_below depth m n v ty vs h =
    type_all-with is_below is_below (depth + n) (depth + m) (substitute depth v) ty (λ t b. is_below-substitute depth m n v t vs b) h

pub statement_substitution_below : StatementSubstitutionBelow
statement_substitution_below depth m n v s vs h =
    ap (statement_all is_below (depth + m)) (substitute_statement-with v depth s) ∙
    statement_all-with is_below is_below (substitutes v) n m depth s (λ d t b. is_below-substitute d m n v t vs b) h

pub guard_below : GuardBelow
guard_below n ty t h k =
    all_is (formula_below n) (formula_all is_below n) (guard ty t) (formula_below-all n) ∙ guard_all is_below n ty t h k

-- constants that a statement lacks
pub abstraction_of_body_lacking : AbstractionOfBodyLacking
abstraction_of_body_lacking c s h =
    statement_over-with c 0 (substitute_statement 0 (value_at (Const c ∷ [])) s) ∙
    (ap (statement_with (abstracts c) 0) (substitute_statement-with (value_at (Const c ∷ [])) 0 s) ∙
    statement_back (abstracts c) (substitutes (value_at (Const c ∷ []))) (term_lacks c) 0 s (λ d t k. term_over-substitute c d t (not-true (occurs c t) k)) h)

statement_weaker : (p q : ℕ → Term → Bool) (n : ℕ) (s : Statement) → ((n : ℕ) (t : Term) → p n t ≡ true → q n t ≡ true) → statement_all p n s ≡ true → statement_all q n s ≡ true
statement_weaker p q n Truth each h = refl
statement_weaker p q n (Eq t u) each h =
    let both : (p n t ≡ true) × (p n u ≡ true) = and_parts (p n t) (p n u) h in
    and_from _ _ (each n t both.0) (each n u both.1)
statement_weaker p q n (Atom s ts) each h = all_weaker (p n) (q n) ts (each n) h
statement_weaker p q n (Not s) each h = statement_weaker p q n s each h
statement_weaker p q n (And s t) each h =
    let both : (statement_all p n s ≡ true) × (statement_all p n t ≡ true) = and_parts (statement_all p n s) (statement_all p n t) h in
    and_from _ _ (statement_weaker p q n s each both.0) (statement_weaker p q n t each both.1)
statement_weaker p q n (For ty s) each h =
    let both : (type_all p n ty ≡ true) × (statement_all p (n + 1) s ≡ true) = and_parts (type_all p n ty) (statement_all p (n + 1) s) h in
    let inner : (list_all (adjective_all p n) ty.adjectives ≡ true) × (list_all (p n) ty.radix.args ≡ true) = and_parts (list_all (adjective_all p n) ty.adjectives) (list_all (p n) ty.radix.args) both.0 in
    and_from _ _
    (and_from _ _
    (all_weaker (adjective_all p n) (adjective_all q n) ty.adjectives (λ a k. all_weaker (p n) (q n) a.args (each n) k) inner.0)
    (all_weaker (p n) (q n) ty.radix.args (each n) inner.1))
    (statement_weaker p q (n + 1) s each both.1)

pub next_lacking : NextLacking
next_lacking next s h =
    statement_weaker (in_force_at next) (term_lacks next) 0 s (λ n t k. not_from_false (occurs next t) (term_apart next t k)) (sym (statement_in_force-all next 0 s) ∙ h)

pub abstraction_lacking : AbstractionLacking
abstraction_lacking c s =
    ap (statement_all (term_lacks c) 0) (statement_over-with c 0 s) ∙
    statement_all-with any_term (term_lacks c) (abstracts c) 0 0 0 s (λ d t k. not_from_false (occurs c (term_over c d t)) (occurs-term_over c d t)) (statement_any 0 s)

lacking_persists : (c : ℕ) → Persists (term_lacks c)
lacking_persists c = record { raised = λ n t h. ap not (occurs-shift c 0 1 t) ∙ h; zero = λ n. refl }

list_lacking : (c : ℕ) (ts : List Term) (n : ℕ) → list_all (term_lacks c n) ts ≡ true → list_any (occurs c) ts ≡ false
list_lacking c [] n h = refl
list_lacking c (t ∷ ts) n h =
    let both : (term_lacks c n t ≡ true) × (list_all (term_lacks c n) ts ≡ true) = and_parts (term_lacks c n t) (list_all (term_lacks c n) ts) h in
    or_from _ _ (not-true (occurs c t) both.0) (list_lacking c ts n both.1)

formula_lacking : (c n : ℕ) (f : Formula) → formula_all (term_lacks c) n f ≡ true → occurs_in_formula c f ≡ false
formula_lacking c n formula.Truth h = refl
formula_lacking c n (formula.Eq t u) h =
    let both : (term_lacks c n t ≡ true) × (term_lacks c n u ≡ true) = and_parts (term_lacks c n t) (term_lacks c n u) h in
    or_from _ _ (not-true (occurs c t) both.0) (not-true (occurs c u) both.1)
formula_lacking c n (formula.Atom s ts) h = list_lacking c ts n h
formula_lacking c n (formula.Not f) h = formula_lacking c n f h
formula_lacking c n (formula.And f g) h =
    let both : (formula_all (term_lacks c) n f ≡ true) × (formula_all (term_lacks c) n g ≡ true) = and_parts (formula_all (term_lacks c) n f) (formula_all (term_lacks c) n g) h in
    or_from _ _ (formula_lacking c n f both.0) (formula_lacking c n g both.1)
formula_lacking c n (formula.All f) h = formula_lacking c (n + 1) f h

pub erasure_lacking : ErasureLacking
erasure_lacking c s h = formula_lacking c 0 (erase s) (erase_all (term_lacks c) 0 s (lacking_persists c) h)
