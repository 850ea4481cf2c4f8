-- The places up to the last constant.
use Rattle.std.proofs.Common.{◌≡◌, ◌≤◌, ◌<◌, ◌-◌, ℕ, zero, suc, List, [], ◌∷◌, sym, ap, ◌∙◌, arith, length, take, Option, Some, None, get_or}
use Rattle.std.proofs.lemmas.List.{take_all}
use Rattle.mz_context.specs.declared.constants.Constant.{Constant}
use Rattle.mz_context.specs.Changes.{places_with, places_in_use}

places_in_use-some_last : (ks : List (Option Constant)) (n : ℕ) (o : Option Constant) (k : Constant) → n < length ks → o ≡ get_or ks n o → o ≡ Some k → places_in_use (take (suc n) ks) ≡ suc n
places_in_use-some_last [] n o k lt at e = absurd (omega (arith, lt))
places_in_use-some_last (x ∷ xs) zero o k lt at e = ap (places_with zero) (sym at ∙ e)
places_in_use-some_last (x ∷ xs) (suc n) o k lt at e = ap (λ m. places_with m x) (places_in_use-some_last xs n o k (omega (arith, lt)) at e)

places_in_use-none_last : (ks : List (Option Constant)) (n : ℕ) (o : Option Constant) → n < length ks → o ≡ get_or ks n o → o ≡ None → places_in_use (take (suc n) ks) ≡ places_in_use (take n ks)
places_in_use-none_last [] n o lt at e = absurd (omega (arith, lt))
places_in_use-none_last (x ∷ xs) zero o lt at e = ap (places_with zero) (sym at ∙ e)
places_in_use-none_last (x ∷ xs) (suc n) o lt at e = ap (λ m. places_with m x) (places_in_use-none_last xs n o (omega (arith, lt)) at e)

pub told_some : (ks : List (Option Constant)) (n m : ℕ) (o : Option Constant) (k : Constant) → m ≡ n - 1 → 0 < n → n ≤ length ks → o ≡ get_or ks m o → o ≡ Some k → places_in_use ks ≡ places_in_use (take n ks) → n ≡ places_in_use ks
told_some ks zero m o k em lt le at e h = absurd (omega (arith, lt))
told_some ks (suc n) m o k em lt le at e h =
    let same : m ≡ n = omega (arith, em) in
    sym (h ∙ places_in_use-some_last ks n o k (omega (arith, le)) (at ∙ ap (λ i. get_or ks i o) same) e)

pub places_in_use-told_none : (ks : List (Option Constant)) (n m : ℕ) (o : Option Constant) → m ≡ n - 1 → 0 < n → n ≤ length ks → o ≡ get_or ks m o → o ≡ None → places_in_use ks ≡ places_in_use (take n ks) → places_in_use ks ≡ places_in_use (take m ks)
places_in_use-told_none ks zero m o em lt le at e h = absurd (omega (arith, lt))
places_in_use-told_none ks (suc n) m o em lt le at e h =
    let same : m ≡ n = omega (arith, em) in
    h ∙ places_in_use-none_last ks n o (omega (arith, le)) (at ∙ ap (λ i. get_or ks i o) same) e ∙ ap (λ i. places_in_use (take i ks)) (sym same)

pub told_end : (ks : List (Option Constant)) (n : ℕ) → n ≡ 0 → places_in_use ks ≡ places_in_use (take n ks) → 0 ≡ places_in_use ks
told_end ks n e h = sym (h ∙ ap (λ i. places_in_use (take i ks)) e)

pub places_in_use-told_start : (ks : List (Option Constant)) (n : ℕ) → n ≡ length ks → places_in_use ks ≡ places_in_use (take n ks)
places_in_use-told_start ks n e = ap places_in_use (sym (take_all n ks (omega (arith, e))))

pub ruleset place_rules = (told_some, places_in_use-told_none, told_end, places_in_use-told_start)
