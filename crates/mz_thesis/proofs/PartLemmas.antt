-- What the code of parts tells.
use Rattle.std.proofs.Common.{◌≡◌, ◌≤◌, ◌<◌, ◌+◌, ℕ, zero, suc, List, [], ◌∷◌, refl, sym, ap, ◌∙◌, subst, Bool, true, false, arith, length, drop, get_or}
use Rattle.std.specs.Prelude.{◌↔◌, IsTrue}
use Rattle.std.proofs.lemmas.Bool.{false≢true}
use Rattle.mz_std_laws.proofs.Truth.{not_both}
use Rattle.mz_logic.specs.Same.{IsSame}
use Rattle.mz_core.specs.Statement.{Statement}
use Rattle.mz_core.specs.Erasure.{erase}
use Rattle.mz_thesis.specs.Rows.{BeginSame}

drop-split : (xs : List Statement) (i : ℕ) (x : Statement) → i < length xs → x ≡ get_or xs i x → drop i xs ≡ x ∷ drop (i + 1) xs
drop-split xs i x lt at = let e : (i + 1) ≡ suc i = omega arith in inner xs i lt at ∙ ap (λ n. x ∷ drop n xs) (sym e)
  where
    inner : (ys : List Statement) (k : ℕ) → k < length ys → x ≡ get_or ys k x → drop k ys ≡ x ∷ drop (suc k) ys
    inner [] k l a = absurd (omega (arith, l))
    inner (y ∷ ys) zero l a = ap (λ z. z ∷ ys) (sym a)
    inner (y ∷ ys) (suc k) l a = inner ys k (omega (arith, l)) a

shorter : (ss ts : List Statement) → BeginSame ss ts → length ss ≤ length ts
shorter [] ts h = omega arith
shorter (s ∷ ss) [] h = absurd h
shorter (s ∷ ss) (t ∷ ts) h = let le : length ss ≤ length ts = shorter ss ts h.1 in omega (arith, le)

pub told_longer : (ss ts : List Statement) (n m : ℕ) → n ≡ length ss → m ≡ length ts → m < n → IsTrue false ↔ BeginSame ss ts
told_longer ss ts n m en em lt =
    (λ x. absurd (false≢true x), λ h. let le : length ss ≤ length ts = shorter ss ts h in absurd (omega (arith, le, en, em, lt)))

-- the lists from a place on begin the same exactly where the lists do
abbrev pub Agree : List Statement → List Statement → ℕ → Type 0
Agree ss ts i = BeginSame (drop i ss) (drop i ts) ↔ BeginSame ss ts

pub told_start : (ss ts : List Statement) → Agree ss ts 0
told_start ss ts = (λ h. h, λ h. h)

at_place : (ss ts : List Statement) (i : ℕ) (s t : Statement) → i < length ss → i < length ts → s ≡ get_or ss i s → t ≡ get_or ts i t → BeginSame (drop i ss) (drop i ts) ↔ (IsSame (erase s) (erase t) × BeginSame (drop (i + 1) ss) (drop (i + 1) ts))
at_place ss ts i s t ls lt es et =
    let a : drop i ss ≡ s ∷ drop (i + 1) ss = drop-split ss i s ls es in
    let b : drop i ts ≡ t ∷ drop (i + 1) ts = drop-split ts i t lt et in (
      λ h. subst (λ xs. BeginSame (s ∷ drop (i + 1) ss) xs) b (subst (λ xs. BeginSame xs (drop i ts)) a h),
      λ h. subst (λ xs. BeginSame xs (drop i ts)) (sym a) (subst (λ xs. BeginSame (s ∷ drop (i + 1) ss) xs) (sym b) h),
    )

pub told_next : (ss ts : List Statement) (i n m : ℕ) (s t : Statement) (b : Bool) → n ≡ length ss → m ≡ length ts → n ≤ m → i < n → s ≡ get_or ss i s → t ≡ get_or ts i t → IsTrue b ↔ IsSame (erase s) (erase t) → b ≡ true → Agree ss ts i → Agree ss ts (i + 1)
told_next ss ts i n m s t b en em le lt es et same eb so =
    let p : BeginSame (drop i ss) (drop i ts) ↔ (IsSame (erase s) (erase t) × BeginSame (drop (i + 1) ss) (drop (i + 1) ts)) = at_place ss ts i s t (omega (arith, en, lt)) (omega (arith, en, em, le, lt)) es et in
    (λ h. so.0 (p.1 (same.0 eb, h)), λ h. (p.0 (so.1 h)).1)

pub told_differ : (ss ts : List Statement) (i n m : ℕ) (s t : Statement) (b : Bool) → n ≡ length ss → m ≡ length ts → n ≤ m → i < n → s ≡ get_or ss i s → t ≡ get_or ts i t → IsTrue b ↔ IsSame (erase s) (erase t) → b ≡ false → Agree ss ts i → IsTrue false ↔ BeginSame ss ts
told_differ ss ts i n m s t b en em le lt es et same eb so =
    let p : BeginSame (drop i ss) (drop i ts) ↔ (IsSame (erase s) (erase t) × BeginSame (drop (i + 1) ss) (drop (i + 1) ts)) = at_place ss ts i s t (omega (arith, en, lt)) (omega (arith, en, em, le, lt)) es et in
    (λ x. absurd (false≢true x), λ h. absurd (not_both b eb (same.1 (p.0 (so.1 h)).0)))

drop-past : (xs : List Statement) (i : ℕ) → length xs ≤ i → drop i xs ≡ []
drop-past [] zero le = refl
drop-past [] (suc i) le = refl
drop-past (x ∷ xs) zero le = absurd (omega (arith, le))
drop-past (x ∷ xs) (suc i) le = drop-past xs i (omega (arith, le))

pub told_same : (ss ts : List Statement) (i n : ℕ) → n ≡ length ss → n ≤ i → Agree ss ts i → IsTrue true ↔ BeginSame ss ts
told_same ss ts i n en le so =
    (λ x. so.0 (subst (λ xs. BeginSame xs (drop i ts)) (sym (drop-past ss i (omega (arith, en, le)))) tt), λ h. refl)

pub ruleset begin_rules = (told_longer, told_start, told_next, told_differ, told_same)
