-- The values of numerals.
use Rattle.std.proofs.Common.{◌≡◌, ◌≤◌, ◌<◌, ◌+◌, ◌-◌, ◌*◌, ℕ, zero, suc, List, [], ◌∷◌, length, drop, get_or, refl, sym, ap, ◌∙◌, subst, arith, Bool, true, false, Option, Some, None, if◌then◌else◌}
use Rattle.std.specs.Prelude.{nat_le}
use Rattle.std.proofs.Math.Seq.{drop-cons, drop-length}
use Rattle.std.proofs.lemmas.Bool.{leb-true, leb-false, le-leb, lt-leb}
use Rattle.mz_cited.specs.Cited.{value_from, most, if_within, value_of}

if_within-chosen : (n : ℕ) (b : Bool) → nat_le n most ≡ b → if_within n ≡ (if b then Some n else None)
if_within-chosen n b e = ap (λ c. if c then Some n else None) e

pub told_over : (n : ℕ) → most < n → None ≡ if_within n
told_over n lt = sym (if_within-chosen n false (lt-leb n most lt))

pub told_within : (n : ℕ) → n ≤ most → Some n ≡ if_within n
told_within n le = sym (if_within-chosen n true (le-leb n most le))

pub ruleset digit_rules = (told_over, told_within)

-- a value is no less than that of the digits before
at_least : (n : ℕ) (bs : List ℕ) → n ≤ value_from n bs
at_least n [] = omega arith
at_least n (b ∷ bs) = let le : 10 * n + (b - 48) ≤ value_from (10 * n + (b - 48)) bs = at_least (10 * n + (b - 48)) bs in omega (arith, le)

some-inj : (m n : ℕ) → Some m ≡ Some n → m ≡ n
some-inj m n e = cc

none_some : (n : ℕ) → None ≡ Some n → ⊥
none_some n e = cc

-- on which side of the limit the number is
over_from : (n : ℕ) (b : Bool) → nat_le n most ≡ b → None ≡ if_within n → most < n
over_from n true h e = absurd (none_some n (e ∙ if_within-chosen n true h))
over_from n false h e = leb-false n most h

within_from : (n m : ℕ) (b : Bool) → nat_le n most ≡ b → Some m ≡ if_within n → (m ≡ n) × (n ≤ most)
within_from n m true h e = (some-inj m n (e ∙ if_within-chosen n true h), leb-true n most h)
within_from n m false h e = absurd (none_some m (sym (e ∙ if_within-chosen n false h)))

-- one more digit
value_from-digit_at : (ds : List ℕ) (i n d : ℕ) → i < length ds → d ≡ get_or ds i d → value_from n (drop i ds) ≡ value_from (10 * n + (d - 48)) (drop (i + 1) ds)
value_from-digit_at ds i n d lt e =
    let next : suc i ≡ i + 1 = omega arith in
    ap (value_from n) (drop-cons ds i d lt ∙ (ap (λ x. x ∷ drop (suc i) ds) (sym e) ∙ ap (λ k. d ∷ drop k ds) next))

abbrev pub SoFar : List ℕ → ℕ → ℕ → Type 0
SoFar ds i n = (n ≤ most) × (value_from n (drop i ds) ≡ value_from 0 ds)

pub told_start : (ds : List ℕ) → SoFar ds 0 0
told_start ds = (omega arith, refl)

pub told_next : (ds : List ℕ) (i n m d : ℕ) (o : Option ℕ) → i < length ds → d ≡ get_or ds i d → SoFar ds i n → o ≡ if_within (10 * n + (d - 48)) → o ≡ Some m → SoFar ds (i + 1) m
told_next ds i n m d o lt e so h is =
    let v : ℕ = 10 * n + (d - 48) in
    let w : (m ≡ v) × (v ≤ most) = within_from v m (nat_le v most) refl (sym is ∙ h) in
    (subst (λ k. k ≤ most) (sym w.0) w.1, ap (λ k. value_from k (drop (i + 1) ds)) w.0 ∙ (sym (value_from-digit_at ds i n d lt e) ∙ so.1))

pub told_beyond : (ds : List ℕ) (i n : ℕ) (o : Option ℕ) → i < length ds → SoFar ds i n → o ≡ if_within (10 * n + (get_or ds i 0 - 48)) → o ≡ None → None ≡ value_of ds
told_beyond ds i n o lt so h is =
    let d : ℕ = get_or ds i 0 in
    let v : ℕ = 10 * n + (d - 48) in
    let next : suc i ≡ i + 1 = omega arith in
    let over : most < v = over_from v (nat_le v most) refl (sym is ∙ h) in
    let more : v ≤ value_from v (drop (i + 1) ds) = at_least v (drop (i + 1) ds) in
    let here : value_from n (drop i ds) ≡ value_from v (drop (i + 1) ds) = ap (value_from n) (drop-cons ds i 0 lt ∙ ap (λ k. d ∷ drop k ds) next) in
    let same : value_from v (drop (i + 1) ds) ≡ value_from 0 ds = sym here ∙ so.1 in
    told_over (value_from 0 ds) (omega (arith, over, more, same))

pub told_end : (ds : List ℕ) (i n : ℕ) → i ≡ length ds → SoFar ds i n → Some n ≡ value_of ds
told_end ds i n ei so =
    let same : n ≡ value_from 0 ds = ap (value_from n) (sym (drop-length ds) ∙ ap (λ k. drop k ds) (sym ei)) ∙ so.1 in
    told_within n so.0 ∙ ap if_within same

pub ruleset value_rules = (told_start, told_next, told_beyond, told_end)
