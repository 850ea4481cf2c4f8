-- A turn of the loop over loci.
use Rattle.std.proofs.Common.{◌≡◌, ℕ, suc, ◌+◌, ◌-◌, ◌<◌, ◌≤◌, List, [], ◌∷◌, ◌++◌, length, get_or, drop, refl, sym, ap, ◌∙◌, subst, arith, append_assoc, drop-cons, add-one}
use Rattle.std.proofs.lemmas.List.{length-drop, drop_all, append-nil}
use Rattle.mz_logic.specs.Term.{Bound}
use Rattle.mz_logic.specs.declared.literal.Literal.{Literal}
use Rattle.mz_core.specs.TypeShift.{shift_type}
use Rattle.mz_core.specs.Guard.{guard_literals}
use Rattle.mz_core.specs.declared.soft_type.SoftType.{SoftType}
use Rattle.mz_clauses.specs.Guards.{loci_guards}

-- the first of the loci that are left, and the others
guards_of : (by above k : ℕ) (xs : List SoftType) (x : SoftType) → k < length xs → x ≡ get_or xs k x → above + k ≡ length xs + by → loci_guards by (drop k xs) ≡ guard_literals (shift_type 0 above x) (Bound (above - 1)) ++ loci_guards by (drop (k + 1) xs)
guards_of by above k xs x lt at sum =
    let rest : List SoftType = drop (k + 1) xs in
    let long : length (drop (k + 1) xs) ≡ length xs - (k + 1) = length-drop (k + 1) xs in
    let raised : length (drop (k + 1) xs) + 1 + by ≡ above = omega arith in
    let index : length (drop (k + 1) xs) + by ≡ above - 1 = omega arith in
    let split : drop k xs ≡ x ∷ drop (k + 1) xs = rw (add-one, drop-cons xs k x) (ap (λ y. y ∷ drop (suc k) xs) (sym at)) in
    ap (loci_guards by) split ∙ (λ i. guard_literals (shift_type 0 (raised i) x) (Bound (index i)) ++ loci_guards by (drop (k + 1) xs))

pub told_guard : (by above k : ℕ) (xs : List SoftType) (x : SoftType) (out ls g : List Literal) → k < length xs → x ≡ get_or xs k x → above + k ≡ length xs + by → ls ≡ guard_literals (shift_type 0 above x) (Bound (above - 1)) → out ++ loci_guards by (drop k xs) ≡ g → (out ++ ls) ++ loci_guards by (drop (k + 1) xs) ≡ g
told_guard by above k xs x out ls g lt at sum is goes =
    append_assoc out ls (loci_guards by (drop (k + 1) xs)) ∙ (ap (λ gs. out ++ (gs ++ loci_guards by (drop (k + 1) xs))) is ∙ (ap (λ gs. out ++ gs) (sym (guards_of by above k xs x lt at sum)) ∙ goes))

pub told_guards : (by k : ℕ) (xs : List SoftType) (out g : List Literal) → length xs ≤ k → out ++ loci_guards by (drop k xs) ≡ g → out ≡ g
told_guards by k xs out g past goes =
    sym (append-nil out) ∙ (ap (λ (ys : List SoftType). out ++ loci_guards by ys) (sym (drop_all k xs past)) ∙ goes)

pub ruleset guard_rules = (told_guard, told_guards)
