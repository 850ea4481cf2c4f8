-- Sums and products of capped counts.
use Rattle.std.proofs.Common.{◌≡◌, ◌<◌, ◌≤◌, ℕ, zero, suc, ◌+◌, ◌*◌, min, refl, ap, sym, ◌∙◌, arith, Bool, true, false}
use Rattle.std.specs.Prelude.{nat_lt}
use Rattle.std.proofs.Math.Nat.{mul_comm, mul-one, mul-zero, zero-min, mul-le-mul, mul-le-mul_left}
use Rattle.std.proofs.lemmas.Bool.{ltb-true, ltb-false}
use Rattle.mz_logic.specs.Capped.{capped}

min-both_large : (h p q : ℕ) → h ≤ p → h ≤ q → min p h ≡ min q h
min-both_large h p q hp hq = omega arith

min-large_left : (h a b : ℕ) → h ≤ a → min (min a h * min b h) h ≡ min (a * b) h
min-large_left h a zero le =
    let e : min zero h ≡ zero = zero-min h in
    let f : min a h * min zero h ≡ zero = ap (λ x. min a h * x) e ∙ mul-zero (min a h) in
    ap (λ x. min x h) (f ∙ sym (mul-zero a))
min-large_left zero a (suc b) le =
    let p : min (min a zero * min (suc b) zero) zero ≡ zero = omega arith in
    let q : min (a * suc b) zero ≡ zero = omega arith in
    p ∙ sym q
min-large_left (suc h) a (suc b) le =
    let y : ℕ = min (suc b) (suc h) in
    let one : 1 ≤ y = omega arith in
    let ex : min a (suc h) ≡ suc h = omega arith in
    let below : suc h * 1 ≤ suc h * y = mul-le-mul_left (suc h) one in
    let same : suc h * 1 ≡ suc h = mul-one (suc h) in
    let p : suc h ≤ suc h * y = rw same at below in
    let first : min a (suc h) * y ≡ suc h * y = ap (λ x. x * y) ex in
    let some : 1 ≤ suc b = omega arith in
    let q : suc h * 1 ≤ a * suc b = mul-le-mul le some in
    let r : suc h ≤ a * suc b = rw same at q in
    ap (λ x. min x (suc h)) first ∙ min-both_large (suc h) (suc h * y) (a * suc b) p r

min-capped_each : (h a b : ℕ) (c d : Bool) → nat_lt h a ≡ c → nat_lt h b ≡ d → min (min a h * min b h) h ≡ min (a * b) h
min-capped_each h a b true d ec ed =
    let lt : h < a = ltb-true h a ec in
    min-large_left h a b (omega arith)
min-capped_each h a b false true ec ed =
    let lt : h < b = ltb-true h b ed in
    ap (λ x. min x h) (mul_comm (min a h) (min b h)) ∙ min-large_left h b a (omega arith) ∙ ap (λ x. min x h) (mul_comm b a)
min-capped_each h a b false false ec ed =
    let la : a ≤ h = ltb-false h a ec in
    let lb : b ≤ h = ltb-false h b ed in
    let ea : min a h ≡ a = omega arith in
    let eb : min b h ≡ b = omega arith in
    λ i. min (ea i * eb i) h

pub capped-zero : 0 ≡ capped 0
unfolding capped
capped-zero = refl

pub capped-one : 1 ≡ capped 1
unfolding capped
capped-one = refl

pub capped-product : (m n a b : ℕ) → m ≡ capped a → n ≡ capped b → capped (m * n) ≡ capped (a * b)
unfolding capped
capped-product m n a b em en = (λ i. min (em i * en i) 1000000000) ∙ min-capped_each 1000000000 a b (nat_lt 1000000000 a) (nat_lt 1000000000 b) refl refl

pub capped-sum : (m n a b : ℕ) → m ≡ capped a → n ≡ capped b → capped (m + n) ≡ capped (a + b)
unfolding capped
capped-sum m n a b em en = omega arith

pub told_product : (x m n a b : ℕ) → x ≡ capped (m * n) → m ≡ capped a → n ≡ capped b → x ≡ capped (a * b)
told_product x m n a b ex em en = ex ∙ capped-product m n a b em en

pub told_sum : (x m n a b : ℕ) → x ≡ capped (m + n) → m ≡ capped a → n ≡ capped b → x ≡ capped (a + b)
told_sum x m n a b ex em en = ex ∙ capped-sum m n a b em en
