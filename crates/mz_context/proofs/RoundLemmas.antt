-- What the code of rounds tells.
use Rattle.std.proofs.Common.{◌≡◌, ◌<◌, ◌-◌, ℕ, zero, suc, Bool, true, false, List, [], ◌∷◌, ◌++◌, refl, sym, ap, ◌∙◌, arith, length, append_assoc, Option}
use Rattle.std.specs.Prelude.{not, ◌&&◌, nat_eq, if◌then◌else◌}
use Rattle.std.specs.List.{list_any}
use Rattle.mz_logic.specs.declared.literal.Literal.{Literal}
use Rattle.mz_context.specs.declared.constants.Constant.{Constant}
use Rattle.mz_context.specs.Context.{numbers}
use Rattle.mz_context.specs.Gather.{has_constant, below, is_new, rounds, constants_of}

not_new : (ks : List (Option Constant)) (met : List ℕ) (c : ℕ) → is_new ks met [] c ≡ false
not_new ks met c = tested (list_any (nat_eq c) met) refl
  where
    tested : (b : Bool) → list_any (nat_eq c) met ≡ b → is_new ks met [] c ≡ false
    tested true h = ap (λ x. not x && false) h
    tested false h = ap (λ x. not x && false) h

none_new : (ks : List (Option Constant)) (met : List ℕ) (n : ℕ) → below (is_new ks met []) n ≡ []
none_new ks met zero = refl
none_new ks met (suc n) = (λ i. none_new ks met n i ++ (if not_new ks met n i then n ∷ [] else []))

rounds-no_more : (n : ℕ) (ks : List (Option Constant)) (met : List ℕ) → rounds n ks met [] ≡ []
rounds-no_more zero ks met = refl
rounds-no_more (suc n) ks met = ap (rounds n ks (met ++ [])) (none_new ks (met ++ []) (numbers ks)) ∙ rounds-no_more n ks (met ++ [])

empty : (xs : List ℕ) → length xs ≡ 0 → xs ≡ []
empty [] h = refl
empty (x ∷ xs) h = absurd (omega (arith, h))

pub rounds-told_zero : (n : ℕ) (ks : List (Option Constant)) (met last : List ℕ) → n ≡ 0 → rounds n ks met last ≡ last
rounds-told_zero n ks met last e = ap (λ m. rounds m ks met last) e

pub rounds-told_empty : (n : ℕ) (ks : List (Option Constant)) (met last : List ℕ) → length last ≡ 0 → rounds n ks met last ≡ last
rounds-told_empty n ks met last h = let e : last ≡ [] = empty last h in ap (rounds n ks met) e ∙ rounds-no_more n ks met ∙ sym e

pub ruleset done_rules = (rounds-told_zero, rounds-told_empty)

pub append-told_turn : (ks : List (Option Constant)) (n m count : ℕ) (met met' last last' all : List ℕ) → 0 < n → m ≡ n - 1 → count ≡ numbers ks → met' ≡ met ++ last → last' ≡ below (is_new ks (met ++ last) last) count → met ++ rounds n ks met last ≡ all → met' ++ rounds m ks met' last' ≡ all
append-told_turn ks zero m count met met' last last' all lt em ec es el h = absurd (omega (arith, lt))
append-told_turn ks (suc n) m count met met' last last' all lt em ec es el h =
    let e : m ≡ n = omega (arith, em) in
    let w : last' ≡ below (is_new ks (met ++ last) last) (numbers ks) = el ∙ ap (below (is_new ks (met ++ last) last)) ec in
    (λ i. es i ++ rounds (e i) ks (es i) (w i)) ∙ append_assoc met last (rounds n ks (met ++ last) (below (is_new ks (met ++ last) last) (numbers ks))) ∙ h

pub told_done : (ks : List (Option Constant)) (n : ℕ) (met last slice after all : List ℕ) (b : Bool) → (b ≡ true → rounds n ks met last ≡ last) → b ≡ true → slice ≡ last → after ≡ met ++ slice → met ++ rounds n ks met last ≡ all → after ≡ all
told_done ks n met last slice after all b r eb es e h = e ∙ ap (λ xs. met ++ xs) (es ∙ sym (r eb)) ∙ h

pub ruleset round_rules = (append-told_turn, told_done)

pub told_constants : (ks : List (Option Constant)) (l : Literal) (count : ℕ) (ns : List ℕ) → count ≡ numbers ks → ns ≡ below (has_constant l) count → ns ≡ constants_of ks l
told_constants ks l count ns e h = h ∙ ap (below (has_constant l)) e
