-- Each row of the table of steps is sound.
use Rattle.std.proofs.Common.{◌≡◌, ◌≤◌, ℕ, zero, suc, List, [], ◌∷◌, ◌++◌, map, drop, length, refl, ap, sym, ◌∙◌, subst, arith, Bool, true, false, inl, inr, ◌⊎◌}
use Rattle.std.specs.Prelude.{◌||◌, Option, Some, None, Contains, slice_get}
use Rattle.std.specs.List.{list_any, list_all}
use Rattle.std.proofs.lemmas.List.{append-nil}
use Rattle.std.proofs.lemmas.Bool.{and_parts, and_from, or_from}
use Rattle.mz_std_laws.proofs.Sums.{either}
use Rattle.mz_logic.specs.Term.{Term, Bound, Const}
use Rattle.mz_logic.specs.Formula as formula
use Rattle.mz_logic.specs.Formula.{Formula}
use Rattle.mz_logic.specs.Literal.{literal_formula}
use Rattle.mz_logic.specs.Indices.{closed}
use Rattle.mz_logic.specs.Constants.{occurs_in_formula}
use Rattle.mz_logic.specs.Negation.{falsity, negated}
use Rattle.mz_logic.specs.Substitution.{body_at}
use Rattle.mz_logic.specs.Derives.{Derives}
use Rattle.mz_logic.specs.declared.literal.Literal.{Literal}
use Rattle.mz_logic.proofs.Rules.{and_in, not_in, not_out, classical, all_in, all_out, reflexive}
use Rattle.mz_logic.proofs.Connectives.{first, under, twice_in}
use Rattle.mz_logic.proofs.ValueLaws.{substitute-value_at, substitute-past}
use Rattle.mz_logic.proofs.Each.{Each, Along, cut_each, each_itself, each_under, each_append, each_left, each_right, each_more, along_each, first_or_later, the_first, a_later}
use Rattle.mz_core.specs.Statement.{Statement, Truth, Eq, Atom, Not, And, For}
use Rattle.mz_core.specs.StatementForms.{opposite, disjunction, for_some}
use Rattle.mz_core.specs.TypeSubstitution.{statement_at}
use Rattle.mz_core.specs.Guard.{guard, guard_literals}
use Rattle.mz_core.specs.Connectives.{where_guard, guard_inside}
use Rattle.mz_core.specs.Parts.{parts, conjunction}
use Rattle.mz_core.specs.Erasure.{erase}
use Rattle.mz_core.specs.InForce.{term_in_force, formula_in_force, type_in_force, statement_in_force}
use Rattle.mz_core.specs.declared.soft_type.SoftType.{SoftType}
use Rattle.mz_core.proofs.LawProofs.{erasure_in_force, negation_in_force, next_is_new}
use Rattle.mz_laws.proofs.StatementProofs.{body_under_guard, more_formula_in_force, term_shift_in_force}
use Rattle.mz_context.specs.Context.{numbered, numbers, in_force}
use Rattle.mz_context.specs.Gather.{known, known_of, equation_if_any}
use Rattle.mz_context.specs.declared.constants.Constant.{Constant}
use Rattle.mz_ground.specs.ClauseFormula.{clause_formula}
use Rattle.mz_ground.specs.declared.clause.Clause.{Clause}
use Rattle.mz_fits.specs.Fits.{TypeFits}
use Rattle.mz_fits.specs.Laws.{AreGranted}
use Rattle.mz_fits.proofs.SoundLemmas.{fits_derives}
use Rattle.mz_clause_laws.proofs.Instances.{where_out}
use Rattle.mz_thesis.specs.Rows.{BeginSame, antecedents, rest_behind, with_fresh, FitsFresh}
use Rattle.mz_thesis.specs.Cases.{disjunction_to}
use Rattle.mz_thesis_laws.specs.RowLaws.{AreInForce, equal_to, LetLaw, AssumeLaw, ThusLaw, TakeLaw, CasesLaw, ConsiderLaw, DefineLaw}
use Rattle.mz_thesis_laws.proofs.StatementProofs.{opposite_in, opposite_out, opposite_at, parts_in, parts_out, conjunction_in, conjunction_out, begin_in, begin_out, antecedents_out, where_in}

-- a constant that isn't in force occurs in no formula that is in force
pub new_in : (next c : ℕ) (f : Formula) → next ≤ c → formula_in_force next f ≡ true → occurs_in_formula c f ≡ false
new_in next c f le h = next_is_new c f (more_formula_in_force next c f le h)

pub new_in_all : (next c : ℕ) (fs : List Formula) → next ≤ c → AreInForce next fs → list_any (occurs_in_formula c) fs ≡ false
new_in_all next c [] le h = refl
new_in_all next c (f ∷ fs) le h =
    let both : (formula_in_force next f ≡ true) × (list_all (formula_in_force next) fs ≡ true) = and_parts (formula_in_force next f) (list_all (formula_in_force next) fs) h in
    or_from (occurs_in_formula c f) (list_any (occurs_in_formula c) fs) (new_in next c f le both.0) (new_in_all next c fs le both.1)

-- the body of a typed quantifier, under its guard
abbrev pub inner : SoftType → Statement → Formula
inner ty s = where_guard (guard_inside ty) (erase s)

inner_in_force : (next : ℕ) (ty : SoftType) (s : Statement) → type_in_force next ty ≡ true → statement_in_force next s ≡ true → formula_in_force next (inner ty s) ≡ true
inner_in_force next ty s ht hs = erasure_in_force next (For ty s) (and_from (type_in_force next ty) (statement_in_force next s) ht hs)

-- from a constant that is not in force to all
pub generalized : (ax g : List Formula) (next c : ℕ) (ty : SoftType) (s : Statement) → AreInForce next g → next ≤ c → type_in_force next ty ≡ true → statement_in_force next s ≡ true → Derives ax (guard ty (Const c) ++ g) (erase (statement_at s (Const c))) → Derives ax g (erase (For ty s))
generalized ax g next c ty s in_g le ht hs d =
    let one : Derives ax g (where_guard (guard ty (Const c)) (erase (statement_at s (Const c)))) = where_in ax g (guard ty (Const c)) (erase (statement_at s (Const c))) d in
    let two : Derives ax g (body_at (inner ty s) (Const c)) = subst (Derives ax g) (sym (body_under_guard ty s (Const c))) one in
    all_in ax g (inner ty s) c (new_in_all next c g le in_g) (new_in next c (inner ty s) le (inner_in_force next ty s ht hs)) two

-- and back, at a closed term whose guard derives
pub specialized : (ax g : List Formula) (ty : SoftType) (s : Statement) (t : Term) → closed t ≡ true → Each ax g (guard ty t) → Derives ax g (erase (For ty s)) → Derives ax g (erase (statement_at s t))
specialized ax g ty s t ct each d =
    let one : Derives ax g (body_at (inner ty s) t) = all_out ax g (inner ty s) t ct d in
    let two : Derives ax g (where_guard (guard ty t) (erase (statement_at s t))) = subst (Derives ax g) (body_under_guard ty s t) one in
    where_out ax g (guard ty t) (erase (statement_at s t)) (along_each ax g (guard ty t) each) two

-- what is known with a fresh constant
last_or : (ks : List (Option Constant)) (x : Option Constant) (i : ℕ) → (slice_get (ks ++ x ∷ []) i ≡ slice_get ks i) ⊎ ((i ≡ length ks) × (slice_get (ks ++ x ∷ []) i ≡ Some x))
last_or [] x zero = inr (refl, refl)
last_or [] x (suc i) = inl refl
last_or (k ∷ ks) x zero = inl refl
last_or (k ∷ ks) x (suc i) = either (last_or ks x i) (λ e. inl e) (λ e. inr (ap suc e.0, e.1))

from_map : (ls : List Literal) (l : Literal) → Contains ls l → Contains (map literal_formula ls) (literal_formula l)
from_map [] l is = absurd (omega (arith, is.1))
from_map (x ∷ xs) l (zero, lt, e) = (0, omega arith, ap literal_formula e)
from_map (x ∷ xs) l (suc i, lt, e) = a_later (literal_formula x) (literal_formula l) (map literal_formula xs) (from_map xs l (i, omega (arith, lt), e))

of_fresh : (ty : SoftType) (count i : ℕ) (l : Literal) → i ≡ count → Contains (known_of (suc i) (Some (record { name = []; ty = ty; equal = None }))) l → Contains (guard ty (Const (suc count))) (literal_formula l)
of_fresh ty count i l same is =
    let alone : Contains (guard_literals ty (Const (suc i))) l = subst (λ xs. Contains xs l) (append-nil (guard_literals ty (Const (suc i)))) is in
    subst (λ n. Contains (guard ty (Const (suc n))) (literal_formula l)) same (from_map (guard_literals ty (Const (suc i))) l alone)

known_with_fresh : (ax g : List Formula) (cs : List Clause) (ks : List (Option Constant)) (ty : SoftType) → AreGranted ax g cs ks → (n : ℕ) (l : Literal) → Contains (known (with_fresh ks ty) n) l → Derives ax (guard ty (Const (numbers ks)) ++ g) (literal_formula l)
known_with_fresh ax g cs ks ty grants zero l is = absurd (omega (arith, is.1))
known_with_fresh ax g cs ks ty grants (suc i) l is =
    let gs : List Formula = guard ty (Const (numbers ks)) in
    let k : Constant = record { name = []; ty = ty; equal = None } in
    let from_g : Each ax (gs ++ g) g = each_right ax (gs ++ g) gs g (each_itself ax (gs ++ g)) in
    let from_gs : Each ax (gs ++ g) gs = each_left ax (gs ++ g) gs g (each_itself ax (gs ++ g)) in
    either (last_or ks (Some k) i)
    (λ e. cut_each ax (gs ++ g) g (literal_formula l) from_g (grants.known (suc i) l (subst (λ o. Contains (known_of (suc i) (in_force o)) l) e is)))
    (λ e. from_gs (literal_formula l) (of_fresh ty (length ks) i l e.0 (subst (λ o. Contains (known_of (suc i) (in_force o)) l) e.1 is)))

pub granted_with_fresh : (ax g : List Formula) (cs : List Clause) (ks : List (Option Constant)) (ty : SoftType) → AreGranted ax g cs ks → AreGranted ax (guard ty (Const (numbers ks)) ++ g) cs (with_fresh ks ty)
granted_with_fresh ax g cs ks ty grants =
    let gs : List Formula = guard ty (Const (numbers ks)) in
    record {
      clauses = λ c is. cut_each ax (gs ++ g) g (clause_formula c) (each_right ax (gs ++ g) gs g (each_itself ax (gs ++ g))) (grants.clauses c is);
      known = known_with_fresh ax g cs ks ty grants;
    }

-- let
pub let_law : LetLaw
let_law ax g cs ks grants in_g c T ty s le in_th in_ty fits d =
    let n : ℕ = numbers ks in
    let both : (type_in_force n T ≡ true) × (statement_in_force n s ≡ true) = and_parts (type_in_force n T) (statement_in_force n s) in_th in
    let gs : List Formula = guard T (Const n) in
    let all : Derives ax g (erase (For ty s)) = generalized ax g n c ty s in_g le in_ty both.1 d in
    let inside : Derives ax (gs ++ g) (erase (For ty s)) = cut_each ax (gs ++ g) g (erase (For ty s)) (each_right ax (gs ++ g) gs g (each_itself ax (gs ++ g))) all in
    let each : Each ax (gs ++ g) (guard ty (Const n)) = fits_derives ax (gs ++ g) cs (with_fresh ks T) (granted_with_fresh ax g cs ks T grants) (Const n) ty fits in
    let one : Derives ax (gs ++ g) (erase (statement_at s (Const n))) = specialized ax (gs ++ g) ty s (Const n) refl each inside in
    generalized ax g n n T s in_g (omega arith) both.0 both.1 one

-- assume
pub assume_law : AssumeLaw
assume_law ax g th s same d =
    let not_th : Formula = formula.Not (erase th) in
    let h : List Formula = not_th ∷ g in
    let rest : List Statement = drop (length (parts s)) (antecedents th) in
    let split : Along ax h (map erase (parts s)) × Along ax h (map erase rest) = begin_out ax h (parts s) (antecedents th) same (antecedents_out ax h th (first ax g not_th)) in
    let assumed : Derives ax h (erase s) = parts_in ax h s split.0 in
    let left : Derives ax h (erase (conjunction rest)) = conjunction_in ax h rest split.1 in
    let each : Each ax h (erase s ∷ g) = each_more ax h (erase s) g assumed (each_under ax g g not_th (each_itself ax g)) in
    let against : Derives ax h (formula.Not (erase (conjunction rest))) = opposite_out ax h (conjunction rest) (cut_each ax h (erase s ∷ g) (erase (opposite (conjunction rest))) each d) in
    classical ax g (erase th) (not_out ax h (erase (conjunction rest)) falsity left against)

-- thus
pub thus_law : ThusLaw
thus_law ax g th s same d e =
    let rest : List Statement = drop (length (parts s)) (parts th) in
    let left : Derives ax g (erase (conjunction rest)) = cut_each ax g (erase s ∷ g) (erase (conjunction rest)) (each_more ax g (erase s) g d (each_itself ax g)) e in
    parts_in ax g th (begin_in ax g (parts s) (parts th) same (parts_out ax g s d) (conjunction_out ax g rest left))

-- take
pub take_guarded : (ax g : List Formula) (ty : SoftType) (s : Statement) (t : Term) → closed t ≡ true → Each ax g (guard ty t) → Derives ax g (erase (opposite (statement_at s t))) → Derives ax g (erase (Not (For ty s)))
take_guarded ax g ty s t ct each d =
    let all : Formula = erase (For ty s) in
    let h : List Formula = all ∷ g in
    let one : Derives ax h (erase (statement_at s t)) = specialized ax h ty s t ct (each_under ax g (guard ty t) all each) (first ax g all) in
    let against : Derives ax h (formula.Not (erase (statement_at s t))) = under ax g all (formula.Not (erase (statement_at s t))) (opposite_out ax g (statement_at s t) d) in
    not_in ax g all (not_out ax h (erase (statement_at s t)) falsity one against)

pub take_law : TakeLaw
take_law ax g cs ks grants ty s t ct fits d = take_guarded ax g ty s t ct (fits_derives ax g cs ks grants t ty fits) d

-- a case is refuted where the thesis derives in it and is denied
refuted : (ax g : List Formula) (th s : Statement) → Derives ax (erase s ∷ g) (erase th) → Derives ax (formula.Not (erase th) ∷ g) (formula.Not (erase s))
refuted ax g th s d =
    let not_th : Formula = formula.Not (erase th) in
    let h : List Formula = not_th ∷ g in
    let k : List Formula = erase s ∷ h in
    let each : Each ax k (erase s ∷ g) = each_more ax k (erase s) g (first ax h (erase s)) (each_under ax h g (erase s) (each_under ax g g not_th (each_itself ax g))) in
    not_in ax h (erase s) (not_out ax k (erase th) falsity (cut_each ax k (erase s ∷ g) (erase th) each d) (under ax h (erase s) not_th (first ax g not_th)))

first_or : (ax h : List Formula) (s t : Statement) (ts : List Statement) → Derives ax h (formula.Not (erase (disjunction s t))) → ((u : Statement) → Contains (s ∷ t ∷ ts) u → Derives ax h (formula.Not (erase u))) → (u : Statement) → Contains (disjunction s t ∷ ts) u → Derives ax h (formula.Not (erase u))
first_or ax h s t ts both each u (zero, lt, e) = subst (λ w. Derives ax h (formula.Not (erase w))) e both
first_or ax h s t ts both each u (suc k, lt, e) = each u (suc (suc k), omega (arith, lt), e)

-- so is the disjunction where each case is
none_left : (ax h : List Formula) (s : Statement) (ts : List Statement) → ((u : Statement) → Contains (s ∷ ts) u → Derives ax h (formula.Not (erase u))) → Derives ax h (formula.Not (erase (disjunction_to s ts)))
none_left ax h s [] each = each s (0, omega arith, refl)
none_left ax h s (t ∷ ts) each =
    let a : Derives ax h (erase (opposite s)) = opposite_in ax h s (each s (0, omega arith, refl)) in
    let b : Derives ax h (erase (opposite t)) = opposite_in ax h t (each t (1, omega arith, refl)) in
    let both : Derives ax h (formula.Not (erase (disjunction s t))) = twice_in ax h (formula.And (erase (opposite s)) (erase (opposite t))) (and_in ax h (erase (opposite s)) (erase (opposite t)) a b) in
    none_left ax h (disjunction s t) ts (first_or ax h s t ts both each)

-- per cases
pub cases_law : CasesLaw
cases_law ax g th s ts owed each =
    let not_th : Formula = formula.Not (erase th) in
    let h : List Formula = not_th ∷ g in
    let none : Derives ax h (formula.Not (erase (disjunction_to s ts))) = none_left ax h s ts (λ u is. refuted ax g th u (each u is)) in
    classical ax g (erase th) (not_out ax h (erase (disjunction_to s ts)) falsity (under ax g not_th (erase (disjunction_to s ts)) owed) none)

-- consider
pub consider_law : ConsiderLaw
consider_law ax g next c ty s th in_g le in_ty in_s in_th owed d =
    let at : Statement = statement_at s (Const c) in
    let gs : List Formula = guard ty (Const c) in
    let not_th : Formula = formula.Not (erase th) in
    let h : List Formula = not_th ∷ g in
    let k : List Formula = gs ++ h in
    let w : List Formula = erase at ∷ k in
    let from_h : Each ax k h = each_right ax k gs h (each_itself ax k) in
    let from_g : Each ax k g = λ f is. from_h f (a_later not_th f g is) in
    let from_gs : Each ax k gs = each_left ax k gs h (each_itself ax k) in
    let each : Each ax w (erase at ∷ gs ++ g) = each_more ax w (erase at) (gs ++ g) (first ax k (erase at)) (each_under ax k (gs ++ g) (erase at) (each_append ax k gs g from_gs from_g)) in
    let proved : Derives ax w (erase th) = cut_each ax w (erase at ∷ gs ++ g) (erase th) each d in
    let denied : Derives ax w not_th = under ax k (erase at) not_th (from_h not_th (the_first not_th not_th g refl)) in
    let fails : Derives ax k (erase (opposite at)) = opposite_in ax k at (not_in ax k (erase at) (not_out ax w (erase th) falsity proved denied)) in
    let fails_at : Derives ax k (erase (statement_at (opposite s) (Const c))) = subst (λ u. Derives ax k (erase u)) (sym (opposite_at s (Const c))) fails in
    let in_not : formula_in_force next not_th ≡ true = erasure_in_force next th in_th in
    let in_h : AreInForce next h = and_from (formula_in_force next not_th) (list_all (formula_in_force next) g) in_not in_g in
    let all : Derives ax h (erase (For ty (opposite s))) = generalized ax h next c ty (opposite s) in_h le in_ty (negation_in_force next s ∙ in_s) fails_at in
    classical ax g (erase th) (not_out ax h (erase (For ty (opposite s))) falsity all (under ax g not_th (formula.Not (erase (For ty (opposite s)))) owed))

-- reconsider and set
equal_at : (t u : Term) → statement_at (equal_to t) u ≡ Eq u t
equal_at t u = λ i. Eq (substitute-value_at (u ∷ []) 0 i) (substitute-past 0 (u ∷ []) t i)

equals_itself : (ax g : List Formula) (t : Term) → closed t ≡ true → Derives ax g (erase (opposite (statement_at (opposite (equal_to t)) t)))
equals_itself ax g t ct =
    subst (λ s. Derives ax g (erase s)) (sym (ap opposite (opposite_at (equal_to t) t ∙ ap opposite (equal_at t t)))) (reflexive ax g t ct)

equal_in_force : (next : ℕ) (t : Term) → term_in_force next t ≡ true → statement_in_force next (equal_to t) ≡ true
equal_in_force next t h = term_shift_in_force next 0 1 t ∙ h

pub define_law : DefineLaw
define_law ax g next c ty t th in_g le in_ty ct in_t in_th each d =
    let some : Derives ax g (erase (for_some ty (equal_to t))) = take_guarded ax g ty (opposite (equal_to t)) t ct each (equals_itself ax g t ct) in
    let inside : Derives ax (erase (statement_at (equal_to t) (Const c)) ∷ guard ty (Const c) ++ g) (erase th) = subst (λ s. Derives ax (erase s ∷ guard ty (Const c) ++ g) (erase th)) (sym (equal_at t (Const c))) d in
    consider_law ax g next c ty (equal_to t) th in_g le in_ty (equal_in_force next t in_t) in_th some inside
