-- What holds for all loci, at closed terms in place of these; and the guards of the loci there.
use Rattle.std.proofs.Common.{◌≡◌, ℕ, zero, suc, ◌+◌, ◌-◌, ◌<◌, ◌≤◌, List, [], ◌∷◌, ◌++◌, map, length, get_or, drop, refl, sym, ap, ◌∙◌, subst, arith, drop-cons, true}
use Rattle.std.specs.List.{list_all}
use Rattle.std.proofs.lemmas.Bool.{and_parts}
use Rattle.std.proofs.lemmas.List.{map-append}
use Rattle.mz_logic.specs.Term.{Term, Bound, Const}
use Rattle.mz_logic.specs.Formula as formula
use Rattle.mz_logic.specs.Formula.{Formula}
use Rattle.mz_logic.specs.Indices.{closed}
use Rattle.mz_logic.specs.Connectives.{joined_to}
use Rattle.mz_logic.specs.Literal.{literal_formula}
use Rattle.mz_logic.specs.Substitution.{shift, shift_formula, substitute_formula, value_at, body_at}
use Rattle.mz_logic.specs.Derives.{Derives}
use Rattle.mz_logic.specs.declared.literal.Literal.{Literal}
use Rattle.mz_logic.proofs.ShiftLaws.{shift-Bound, shift-shift}
use Rattle.mz_logic.proofs.SubstitutionLaws.{substitute_formula-unused}
use Rattle.mz_logic.proofs.ValueLaws.{substitute_formula-one_others}
use Rattle.mz_logic.proofs.Rules.{all_out}
use Rattle.mz_logic.proofs.Each.{Along, along_left, along_right, joined_to_in, implies_out}
use Rattle.mz_core.specs.Statement.{Statement}
use Rattle.mz_core.specs.Erasure.{erase}
use Rattle.mz_core.specs.Guard.{guard, guard_literals}
use Rattle.mz_core.specs.Connectives.{where_guard, guard_inside}
use Rattle.mz_core.specs.TypeShift.{shift_adjective, shift_type}
use Rattle.mz_core.specs.declared.adjective.Adjective.{Adjective}
use Rattle.mz_core.specs.declared.soft_type.SoftType.{SoftType}
use Rattle.mz_core.proofs.TermMaps.{formula_with, type_with, guard-with, where_guard-with}
use Rattle.mz_core.proofs.MapInstances.{shifts, substitutes, shift_formula-with, substitute_formula-with}
use Rattle.mz_core.proofs.LawProofs.{map_is}
use Rattle.mz_items.specs.Loci.{over}
use Rattle.mz_clauses.specs.Guards.{loci_guards}

-- values without the innermost ones
pub value_at-drop : (by : ℕ) (ts : List Term) (k : ℕ) → by ≤ length ts → value_at ts (k + by) ≡ value_at (drop by ts) k
value_at-drop zero ts k le = ap (value_at ts) (let e : k + 0 ≡ k = omega arith in e)
value_at-drop (suc by) [] k le = absurd (omega arith)
value_at-drop (suc by) (t ∷ ts) k le =
    let e : k + suc by ≡ suc (k + by) = omega arith in
    ap (value_at (t ∷ ts)) e ∙ value_at-drop by ts k (omega arith)

pub formula_past : (by : ℕ) (ts : List Term) (f : Formula) → by ≤ length ts → substitute_formula 0 (value_at ts) (shift_formula 0 by f) ≡ substitute_formula 0 (value_at (drop by ts)) f
formula_past by ts f le = substitute_formula-unused 0 by (value_at ts) f ∙ (λ i. substitute_formula 0 (λ k. value_at-drop by ts k le i) f)

pub formulas_past : (by : ℕ) (ts : List Term) (fs : List Formula) → by ≤ length ts → map (substitute_formula 0 (value_at ts)) (map (shift_formula 0 by) fs) ≡ map (substitute_formula 0 (value_at (drop by ts))) fs
formulas_past by ts [] le = refl
formulas_past by ts (f ∷ fs) le = λ i. formula_past by ts f le i ∷ formulas_past by ts fs le i

-- a guard under more variables
map-args_once : (by : ℕ) (ts : List Term) → map (shift 0 by) (map (shift 0 1) ts) ≡ map (shift 0 (1 + by)) ts
map-args_once by [] = refl
map-args_once by (t ∷ ts) = λ i. shift-shift 0 1 by t i ∷ map-args_once by ts i

adjectives_once : (by : ℕ) (xs : List Adjective) → map (λ (a : Adjective). record { positive = a.positive; sym = a.sym; args = map (shift 0 by) a.args }) (map (shift_adjective 0 1) xs) ≡ map (shift_adjective 0 (1 + by)) xs
adjectives_once by [] = refl
adjectives_once by (a ∷ xs) = λ i. record { positive = a.positive; sym = a.sym; args = map-args_once by a.args i } ∷ adjectives_once by xs i

type_once : (by : ℕ) (ty : SoftType) → type_with (shift 0 by) (shift_type 0 1 ty) ≡ shift_type 0 (1 + by) ty
type_once by ty i = record { adjectives = adjectives_once by ty.adjectives i; radix = record { sym = ty.radix.sym; args = map-args_once by ty.radix.args i } }

pub guard_raised : (by : ℕ) (ty : SoftType) → map (shift_formula 0 by) (guard_inside ty) ≡ guard (shift_type 0 (1 + by) ty) (Bound by)
guard_raised by ty =
    let index : shift 0 by (Bound 0) ≡ Bound by = shift-Bound by 0 ∙ ap Bound (let e : 0 + by ≡ by = omega arith in e) in
    map_is (shift_formula 0 by) (formula_with (shifts by) 0) (guard_inside ty) (shift_formula-with by 0) ∙
    (guard-with (shifts by) 0 (shift_type 0 1 ty) (Bound 0) ∙ (λ i. guard (type_once by ty i) (index i)))

-- the guard of a locus, which has `by` variables behind it, at values
pub guard_at_values : (by : ℕ) (ts : List Term) (ty : SoftType) → by ≤ length ts → map (substitute_formula 0 (value_at ts)) (guard (shift_type 0 (by + 1) ty) (Bound by)) ≡ map (substitute_formula 0 (value_at (drop by ts))) (guard_inside ty)
guard_at_values by ts ty le =
    let sum : by + 1 ≡ 1 + by = omega arith in
    ap (λ n. map (substitute_formula 0 (value_at ts)) (guard (shift_type 0 n ty) (Bound by))) sum ∙
    (ap (map (substitute_formula 0 (value_at ts))) (sym (guard_raised by ty)) ∙ formulas_past by ts (guard_inside ty) le)

-- formulas under a guard
pub where_at : (v : ℕ → Term) (gs : List Formula) (f : Formula) → substitute_formula 0 v (where_guard gs f) ≡ where_guard (map (substitute_formula 0 v) gs) (substitute_formula 0 v f)
where_at v gs f =
    let changed : (k : Formula) → substitute_formula 0 v k ≡ formula_with (substitutes v) 0 k = λ k. substitute_formula-with v 0 k in
    changed (where_guard gs f) ∙
    (where_guard-with (substitutes v) 0 gs f ∙ (λ i. where_guard (sym (map_is (substitute_formula 0 v) (formula_with (substitutes v) 0) gs changed) i) (sym (changed f) i)))

pub where_out : (ax g gs : List Formula) (f : Formula) → Along ax g gs → Derives ax g (where_guard gs f) → Derives ax g f
where_out ax g [] f a d = d
where_out ax g (k ∷ ks) f a d = implies_out ax g (joined_to k ks) f d (joined_to_in ax g k ks a.0 a.1)

-- closed values
pub closed_at : (ts : List Term) (k : ℕ) → list_all closed ts ≡ true → k < length ts → closed (get_or ts k (Const 0)) ≡ true
closed_at [] k h lt = absurd (omega arith)
closed_at (t ∷ ts) zero h lt = (and_parts (closed t) (list_all closed ts) h).0
closed_at (t ∷ ts) (suc k) h lt = closed_at ts k (and_parts (closed t) (list_all closed ts) h).1 (omega arith)

-- one locus: its body at the value, where its guard holds there
pub locus_out : (ax g : List Formula) (r : ℕ) (ts : List Term) (ty : SoftType) (f : Formula) → list_all closed ts ≡ true → r < length ts → Along ax g (map (substitute_formula 0 (value_at (drop r ts))) (guard_inside ty)) → Derives ax g (substitute_formula 0 (value_at (drop (suc r) ts)) (formula.All (where_guard (guard_inside ty) f))) → Derives ax g (substitute_formula 0 (value_at (drop r ts)) f)
locus_out ax g r ts ty f h lt guards d =
    let v : Term = get_or ts r (Const 0) in
    let rest : List Term = drop (suc r) ts in
    let split : drop r ts ≡ v ∷ drop (suc r) ts = drop-cons ts r (Const 0) lt in
    let inner : Formula = where_guard (guard_inside ty) f in
    let at_value : Derives ax g (body_at (substitute_formula 1 (value_at (drop (suc r) ts)) inner) v) = all_out ax g (substitute_formula 1 (value_at (drop (suc r) ts)) inner) v (closed_at ts r h lt) d in
    let once : Derives ax g (substitute_formula 0 (value_at (v ∷ drop (suc r) ts)) inner) = subst (Derives ax g) (substitute_formula-one_others 0 v (drop (suc r) ts) inner) at_value in
    let here : Derives ax g (substitute_formula 0 (value_at (drop r ts)) inner) = subst (λ us. Derives ax g (substitute_formula 0 (value_at us) inner)) (sym split) once in
    where_out ax g (map (substitute_formula 0 (value_at (drop r ts))) (guard_inside ty)) (substitute_formula 0 (value_at (drop r ts)) f) guards
    (subst (Derives ax g) (where_at (value_at (drop r ts)) (guard_inside ty) f) here)

-- the guards of loci at values
abbrev pub formulas_at : List Term → List Literal → List Formula
formulas_at ts ls = map (substitute_formula 0 (value_at ts)) (map literal_formula ls)

pub formulas_at-append : (ts : List Term) (ks ls : List Literal) → formulas_at ts (ks ++ ls) ≡ formulas_at ts ks ++ formulas_at ts ls
formulas_at-append ts ks ls =
    ap (map (substitute_formula 0 (value_at ts))) (map-append literal_formula ks ls) ∙ map-append (substitute_formula 0 (value_at ts)) (map literal_formula ks) (map literal_formula ls)

pub along_first : (ax g : List Formula) (ts : List Term) (ks ls : List Literal) → Along ax g (formulas_at ts (ks ++ ls)) → Along ax g (formulas_at ts ks)
along_first ax g ts ks ls a = along_left ax g (formulas_at ts ks) (formulas_at ts ls) (subst (Along ax g) (formulas_at-append ts ks ls) a)

pub along_second : (ax g : List Formula) (ts : List Term) (ks ls : List Literal) → Along ax g (formulas_at ts (ks ++ ls)) → Along ax g (formulas_at ts ls)
along_second ax g ts ks ls a = along_right ax g (formulas_at ts ks) (formulas_at ts ls) (subst (Along ax g) (formulas_at-append ts ks ls) a)

-- what holds for all loci holds at values whose guards hold
pub over_out : (ax g : List Formula) (by : ℕ) (ts : List Term) (tys : List SoftType) (s : Statement) → list_all closed ts ≡ true → length tys + by ≤ length ts → Along ax g (formulas_at ts (loci_guards by tys)) → Derives ax g (substitute_formula 0 (value_at (drop (length tys + by) ts)) (erase (over tys s))) → Derives ax g (substitute_formula 0 (value_at (drop by ts)) (erase s))
over_out ax g by ts [] s h le guards d =
    let e : 0 + by ≡ by = omega arith in
    subst (λ n. Derives ax g (substitute_formula 0 (value_at (drop n ts)) (erase s))) e d
over_out ax g by ts (ty ∷ tys) s h le guards d =
    let r : ℕ = length tys + by in
    let count : length (ty ∷ tys) + by ≡ suc (length tys + by) = omega arith in
    let above : length tys + 1 + by ≡ length tys + by + 1 = omega arith in
    let first : List Literal = guard_literals (shift_type 0 (length tys + 1 + by) ty) (Bound (length tys + by)) in
    let here : Along ax g (formulas_at ts first) = along_first ax g ts first (loci_guards by tys) guards in
    let raised : Along ax g (map (substitute_formula 0 (value_at ts)) (guard (shift_type 0 (length tys + by + 1) ty) (Bound (length tys + by)))) = subst (λ n. Along ax g (map (substitute_formula 0 (value_at ts)) (guard (shift_type 0 n ty) (Bound (length tys + by))))) above here in
    let lowered : Along ax g (map (substitute_formula 0 (value_at (drop (length tys + by) ts))) (guard_inside ty)) = subst (Along ax g) (guard_at_values (length tys + by) ts ty (omega arith)) raised in
    let outer : Derives ax g (substitute_formula 0 (value_at (drop (suc (length tys + by)) ts)) (erase (over (ty ∷ tys) s))) = subst (λ n. Derives ax g (substitute_formula 0 (value_at (drop n ts)) (erase (over (ty ∷ tys) s)))) count d in
    over_out ax g by ts tys s h (omega arith) (along_second ax g ts first (loci_guards by tys) guards)
    (locus_out ax g (length tys + by) ts ty (erase (over tys s)) h (omega arith) lowered outer)
