-- What is stated at loci is, over them, what stands under them.
use Rattle.std.proofs.Common.{◌≡◌, ◌≤◌, ℕ, zero, suc, ◌+◌, List, [], ◌∷◌, length, refl, sym, ap, ◌∙◌, arith, true, false, Option}
use Rattle.std.specs.Prelude.{nat_eq}
use Rattle.std.proofs.lemmas.Bool.{ne_eqb}
use Rattle.mz_core.specs.Abstraction.{type_over, statement_over}
use Rattle.mz_core.specs.Statement.{Statement, For}
use Rattle.mz_core.specs.declared.soft_type.SoftType.{SoftType}
use Rattle.mz_items.specs.Loci.{over}
use Rattle.mz_context.specs.declared.constants.Constant.{Constant}
use Rattle.mz_names.specs.Closing.{constant_of, for_all}
use Rattle.mz_names.specs.declared.variable.Variable.{Variable}
use Rattle.mz_loci.specs.Loci.{type_of_locus, type_over_loci, statement_over_loci, types_behind, locus_types, statement_at_loci}
use Rattle.mz_closing_laws.specs.Laws.{locus_of, loci_of, ClosingLaw}
use Rattle.mz_closing_laws.proofs.SwapLemmas.{type_over-swap, statement_over-swap}
use Rattle.mz_closing_laws.proofs.BackLemmas.{statement-back}

one_on : (n : ℕ) → n + 1 ≡ suc n
one_on n = omega arith

zero_ahead : (n : ℕ) → n ≡ n + 0
zero_ahead n = omega arith

apart : (n k : ℕ) → nat_eq n (suc n + k) ≡ false
apart n k = ne_eqb n (suc n + k) (λ e. omega (arith, e))

further : (n k : ℕ) → suc n + k ≡ n + suc k
further n k = omega arith

-- the first constant last
type-first_last : (n k : ℕ) (ty : SoftType) → type_over n k (type_over_loci (suc n) k ty) ≡ type_over_loci n (suc k) ty
type-first_last n zero ty = ap (λ m. type_over m 0 ty) (zero_ahead n)
type-first_last n (suc k) ty =
    let le : 0 ≤ k = omega arith in
    ap (λ m. type_over n m (type_over (suc n + k) 0 (type_over_loci (suc n) k ty))) (sym (one_on k)) ∙
    (type_over-swap n (suc n + k) k 0 (type_over_loci (suc n) k ty) (apart n k) le ∙
    (ap (type_over (suc n + k) 0) (type-first_last n k ty) ∙ ap (λ m. type_over m 0 (type_over_loci n (suc k) ty)) (further n k)))

statement-first_last : (n k : ℕ) (s : Statement) → statement_over n k (statement_over_loci (suc n) k s) ≡ statement_over_loci n (suc k) s
statement-first_last n zero s = ap (λ m. statement_over m 0 s) (zero_ahead n)
statement-first_last n (suc k) s =
    let le : 0 ≤ k = omega arith in
    ap (λ m. statement_over n m (statement_over (suc n + k) 0 (statement_over_loci (suc n) k s))) (sym (one_on k)) ∙
    (statement_over-swap n (suc n + k) k 0 (statement_over_loci (suc n) k s) (apart n k) le ∙
    (ap (statement_over (suc n + k) 0) (statement-first_last n k s) ∙ ap (λ m. statement_over m 0 (statement_over_loci n (suc k) s)) (further n k)))

-- a constant in all that stands over loci
abbrev types_over : ℕ → ℕ → List SoftType → List SoftType
types_over n d [] = []
types_over n d (ty ∷ tys) = type_over n d ty ∷ types_over n (suc d) tys

over-over : (n d : ℕ) (tys : List SoftType) (s : Statement) → statement_over n d (over tys s) ≡ over (types_over n d tys) (statement_over n (d + length tys) s)
over-over n d [] s = ap (λ m. statement_over n m s) (zero_ahead d)
over-over n d (ty ∷ tys) s =
    let on : suc d + length tys ≡ d + suc (length tys) = omega arith in
    ap (For (type_over n d ty))
    (ap (λ m. statement_over n m (over tys s)) (one_on d) ∙ (over-over n (suc d) tys s ∙ ap (λ m. over (types_over n (suc d) tys) (statement_over n m s)) on))

types-first_last : (n j : ℕ) (ks : List (Option Constant)) → types_over n j (types_behind (suc n) j ks) ≡ types_behind n (suc j) ks
types-first_last n j [] = refl
types-first_last n j (k ∷ ks) = λ i. type-first_last n j (type_of_locus k) i ∷ types-first_last n (suc j) ks i

types-length : (n j : ℕ) (vs : List Variable) → length (types_behind n j (loci_of vs)) ≡ length vs
types-length n j [] = refl
types-length n j (v ∷ vs) = ap suc (types-length n (suc j) vs)

-- for all
for_all-over : (n : ℕ) (vs : List Variable) (s : Statement) → for_all n vs s ≡ over (types_behind n 0 (loci_of vs)) (statement_over_loci n (length vs) s)
for_all-over n [] s = refl
for_all-over n (v ∷ vs) s =
    let tys : List SoftType = types_behind (suc n) 0 (loci_of vs) in
    let body : Statement = statement_over_loci (suc n) (length vs) s in
    let place : 0 + length tys ≡ length vs = ap (λ m. 0 + m) (types-length (suc n) 0 vs) ∙ (let same : 0 + length vs ≡ length vs = omega arith in same) in
    ap (For v.ty)
    (ap (statement_over n 0) (for_all-over (suc n) vs s) ∙
    (over-over n 0 tys body ∙
    (ap (λ ts. over ts (statement_over n (0 + length tys) body)) (types-first_last n 0 (loci_of vs)) ∙
    ap (over (types_behind n 1 (loci_of vs))) (ap (λ m. statement_over n m body) place ∙ statement-first_last n (length vs) s))))

pub closing_law : ClosingLaw
closing_law least vs s h =
    for_all-over least vs (statement_at_loci least (length vs) s) ∙ ap (over (locus_types least (loci_of vs))) (statement-back least (length vs) s h)
