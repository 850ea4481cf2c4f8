-- What holds of each object of the type of a locus, at the value of a locus of this type.
use Rattle.std.proofs.Common.{◌≡◌, ℕ, zero, suc, ◌+◌, ◌-◌, ◌<◌, List, [], ◌∷◌, map, length, get_or, reverse, refl, sym, ap, ◌∙◌, subst, arith, true}
use Rattle.std.specs.List.{list_all}
use Rattle.std.proofs.lemmas.List.{get_or-reverse}
use Rattle.mz_logic.specs.Term.{Term, Bound}
use Rattle.mz_logic.specs.Formula.{Formula}
use Rattle.mz_logic.specs.Indices.{closed}
use Rattle.mz_logic.specs.Substitution.{substitute_formula, value_at, body_at}
use Rattle.mz_logic.specs.Derives.{Derives}
use Rattle.mz_logic.specs.declared.literal.Literal.{Literal}
use Rattle.mz_logic.proofs.ValueLaws.{substitute_formula-one_others, substitute-value_at}
use Rattle.mz_logic.proofs.Rules.{all_out}
use Rattle.mz_logic.proofs.Each.{Along}
use Rattle.mz_core.specs.Statement.{Statement, For}
use Rattle.mz_core.specs.Erasure.{erase}
use Rattle.mz_core.specs.Guard.{guard, guard_literals}
use Rattle.mz_core.specs.Connectives.{where_guard, guard_inside}
use Rattle.mz_core.specs.Hidden.{object_type}
use Rattle.mz_core.specs.TypeShift.{shift_type}
use Rattle.mz_core.specs.TypeSubstitution.{substitute_type}
use Rattle.mz_core.specs.declared.soft_type.SoftType.{SoftType}
use Rattle.mz_core.proofs.LawProofs.{guard_of_substitution}
use Rattle.mz_items.specs.PropertyRows.{locus_type, for_one, for_both}
use Rattle.mz_clauses.specs.Guards.{loci_guards}
use Rattle.mz_clause_laws.proofs.Instances.{formulas_at, along_first, along_second, where_at, where_out}
use Rattle.mz_clause_laws.proofs.Valuations.{type_past, value_closed}

-- the guard of the locus at a place, from the guards of all
guard_of_place : (ax g : List Formula) (ts : List Term) (tys : List SoftType) (j : ℕ) (d : SoftType) → j < length tys → Along ax g (formulas_at ts (loci_guards 0 tys)) → Along ax g (formulas_at ts (guard_literals (shift_type 0 (length tys - 1 - j + 1) (get_or tys j d)) (Bound (length tys - 1 - j))))
guard_of_place ax g ts [] j d lt a = absurd (omega arith)
guard_of_place ax g ts (ty ∷ tys) zero d lt a =
    let index : length tys + 0 ≡ length (ty ∷ tys) - 1 - 0 = omega arith in
    let above : length tys + 1 + 0 ≡ length (ty ∷ tys) - 1 - 0 + 1 = omega arith in
    let first : List Literal = guard_literals (shift_type 0 (length tys + 1 + 0) ty) (Bound (length tys + 0)) in
    subst (λ n. Along ax g (formulas_at ts (guard_literals (shift_type 0 n ty) (Bound (length (ty ∷ tys) - 1 - 0))))) above
    (subst (λ n. Along ax g (formulas_at ts (guard_literals (shift_type 0 (length tys + 1 + 0) ty) (Bound n)))) index (along_first ax g ts first (loci_guards 0 tys) a))
guard_of_place ax g ts (ty ∷ tys) (suc j) d lt a =
    let e : length tys - 1 - j ≡ length (ty ∷ tys) - 1 - suc j = omega arith in
    let first : List Literal = guard_literals (shift_type 0 (length tys + 1 + 0) ty) (Bound (length tys + 0)) in
    subst (λ n. Along ax g (formulas_at ts (guard_literals (shift_type 0 (n + 1) (get_or tys j d)) (Bound n)))) e
    (guard_of_place ax g ts tys j d (omega arith) (along_second ax g ts first (loci_guards 0 tys) a))

-- the guard of the locus with an index
pub guard_of_locus : (ax g : List Formula) (ts : List Term) (loci : List SoftType) (p : ℕ) → p < length loci → Along ax g (formulas_at ts (loci_guards 0 loci)) → Along ax g (formulas_at ts (guard_literals (locus_type loci p) (Bound p)))
guard_of_locus ax g ts loci p lt a =
    let j : ℕ = length loci - 1 - p in
    let within : length loci - 1 - p < length loci = omega arith in
    let index : length loci - 1 - (length loci - 1 - p) ≡ p = omega arith in
    let type_is : get_or (reverse loci) p object_type ≡ get_or loci (length loci - 1 - p) object_type = get_or-reverse loci p object_type lt in
    let placed : Along ax g (formulas_at ts (guard_literals (shift_type 0 (length loci - 1 - (length loci - 1 - p) + 1) (get_or loci (length loci - 1 - p) object_type)) (Bound (length loci - 1 - (length loci - 1 - p))))) = guard_of_place ax g ts loci (length loci - 1 - p) object_type within a in
    let indexed : Along ax g (formulas_at ts (guard_literals (shift_type 0 (p + 1) (get_or loci (length loci - 1 - p) object_type)) (Bound p))) = subst (λ n. Along ax g (formulas_at ts (guard_literals (shift_type 0 (n + 1) (get_or loci (length loci - 1 - p) object_type)) (Bound n)))) index placed in
    subst (λ ty. Along ax g (formulas_at ts (guard_literals (shift_type 0 (p + 1) ty) (Bound p)))) (sym type_is) indexed

-- the guard of a quantifier's type at the value of a locus, where the types are equal at the values
guards_meet : (us ts : List Term) (ty other : SoftType) (p : ℕ) → substitute_type 0 (value_at us) ty ≡ substitute_type 0 (value_at ts) other → map (substitute_formula 0 (value_at ts)) (guard other (Bound p)) ≡ map (substitute_formula 0 (value_at (value_at ts p ∷ us))) (guard_inside ty)
guards_meet us ts ty other p same =
    let w : Term = value_at ts p in
    guard_of_substitution 0 (value_at ts) other (Bound p) ∙
    ((λ i. guard ((sym same ∙ sym (type_past (value_at ts p) us ty)) i) ((substitute-value_at ts p ∙ sym (substitute-value_at (value_at ts p ∷ us) 0)) i)) ∙
    sym (guard_of_substitution 0 (value_at (value_at ts p ∷ us)) (shift_type 0 1 ty) (Bound 0)))

pub for_locus : (ax g : List Formula) (loci : List SoftType) (ts us : List Term) (ty : SoftType) (s : Statement) (p : ℕ) → list_all closed ts ≡ true → length ts ≡ length loci → p < length loci → Along ax g (formulas_at ts (loci_guards 0 loci)) → substitute_type 0 (value_at us) ty ≡ substitute_type 0 (value_at ts) (locus_type loci p) → Derives ax g (substitute_formula 0 (value_at us) (erase (For ty s))) → Derives ax g (substitute_formula 0 (value_at (value_at ts p ∷ us)) (erase s))
for_locus ax g loci ts us ty s p h count lt guards same d =
    let w : Term = value_at ts p in
    let within : p < length ts = omega arith in
    let inner : Formula = where_guard (guard_inside ty) (erase s) in
    let at_value : Derives ax g (body_at (substitute_formula 1 (value_at us) inner) (value_at ts p)) = all_out ax g (substitute_formula 1 (value_at us) inner) (value_at ts p) (value_closed ts p h within) d in
    let here : Derives ax g (substitute_formula 0 (value_at (value_at ts p ∷ us)) inner) = subst (Derives ax g) (substitute_formula-one_others 0 (value_at ts p) us inner) at_value in
    let given : Along ax g (map (substitute_formula 0 (value_at (value_at ts p ∷ us))) (guard_inside ty)) = subst (Along ax g) (guards_meet us ts ty (locus_type loci p) p same) (guard_of_locus ax g ts loci p lt guards) in
    where_out ax g (map (substitute_formula 0 (value_at (value_at ts p ∷ us))) (guard_inside ty)) (substitute_formula 0 (value_at (value_at ts p ∷ us)) (erase s)) given
    (subst (Derives ax g) (where_at (value_at (value_at ts p ∷ us)) (guard_inside ty) (erase s)) here)

-- one variable of a property
pub one_locus : (ax g : List Formula) (loci : List SoftType) (ts : List Term) (left : ℕ) (s : Statement) → list_all closed ts ≡ true → length ts ≡ length loci → left < length loci → Along ax g (formulas_at ts (loci_guards 0 loci)) → Derives ax g (substitute_formula 0 (value_at ts) (erase (for_one loci left s))) → Derives ax g (substitute_formula 0 (value_at (value_at ts left ∷ ts)) (erase s))
one_locus ax g loci ts left s h count lt guards d = for_locus ax g loci ts ts (locus_type loci left) s left h count lt guards refl d

-- two variables of a property, at the values of loci p and q that have their types
pub two_loci : (ax g : List Formula) (loci : List SoftType) (ts : List Term) (left right p q : ℕ) (s : Statement) → list_all closed ts ≡ true → length ts ≡ length loci → p < length loci → q < length loci → locus_type loci left ≡ locus_type loci p → locus_type loci right ≡ locus_type loci q → Along ax g (formulas_at ts (loci_guards 0 loci)) → Derives ax g (substitute_formula 0 (value_at ts) (erase (for_both loci left right s))) → Derives ax g (substitute_formula 0 (value_at (value_at ts q ∷ value_at ts p ∷ ts)) (erase s))
two_loci ax g loci ts left right p q s h count ltp ltq ep eq guards d =
    let first : Derives ax g (substitute_formula 0 (value_at (value_at ts p ∷ ts)) (erase (For (shift_type 0 1 (locus_type loci right)) s))) =
    for_locus ax g loci ts ts (locus_type loci left) (For (shift_type 0 1 (locus_type loci right)) s) p h count ltp guards (ap (substitute_type 0 (value_at ts)) ep) d in
    for_locus ax g loci ts (value_at ts p ∷ ts) (shift_type 0 1 (locus_type loci right)) s q h count ltq guards
    (type_past (value_at ts p) ts (locus_type loci right) ∙ ap (substitute_type 0 (value_at ts)) eq) first
