-- What the code of values tells.
use Rattle.std.proofs.Common.{◌≡◌, ◌∙◌, ◌+◌, ℕ, zero, suc, Bool, true, false, List, [], ◌∷◌, length, map, refl, sym as inverse, ap, subst, arith, Option, Some, None}
use Rattle.std.specs.Prelude.{if◌then◌else◌, nat_eq}
use Rattle.mz_logic.specs.Sym.{same_sym}
use Rattle.mz_logic.specs.Term.{Term, Terms, none, more, list_of, terms_of}
use Rattle.mz_logic.specs.declared.sym.Sym.{Sym}
use Rattle.mz_fields.specs.Values.{one_later, place_of, is_constant, is_object, with_values, args_with_values}

-- arguments as a list
pub args_with_values-terms_of : (y first : ℕ) (selectors : List Sym) (ts : List Term) → args_with_values y first selectors (terms_of ts) ≡ terms_of (map (with_values y first selectors) ts)
args_with_values-terms_of y first selectors [] = refl
args_with_values-terms_of y first selectors (t ∷ ts) = ap (λ us. more (with_values y first selectors t) us) (args_with_values-terms_of y first selectors ts)

pub list_of-terms_of : (ts : List Term) → list_of (terms_of ts) ≡ ts
list_of-terms_of [] = refl
list_of-terms_of (t ∷ ts) = ap (λ us. t ∷ us) (list_of-terms_of ts)

pub ruleset value_rules = (args_with_values-terms_of, list_of-terms_of)

-- places behind others
abbrev pub later : ℕ → Option ℕ → Option ℕ
later k None = None
later k (Some n) = Some (k + n)

later_one : (k : ℕ) (o : Option ℕ) → later (k + 1) o ≡ later k (one_later o)
later_one k None = refl
later_one k (Some n) = let same : (k + 1) + n ≡ k + suc n = omega arith in ap (λ m. Some m) same

later_zero : (o : Option ℕ) → later 0 o ≡ o
later_zero None = refl
later_zero (Some n) = let same : 0 + n ≡ n = omega arith in ap (λ m. Some m) same

-- what is told of the rest is told of all
pub told_begun : (s : Sym) (all : List Sym) → later 0 (place_of s all) ≡ place_of s all
told_begun s all = later_zero (place_of s all)

empty_place : (s : Sym) (rest : List Sym) → length rest ≡ 0 → place_of s rest ≡ None
empty_place s [] e = refl
empty_place s (t ∷ ts) e = let no : ⊥ = cc in absurd no

pub told_nowhere : (s : Sym) (rest all : List Sym) (place : ℕ) → length rest ≡ 0 → later place (place_of s rest) ≡ place_of s all → None ≡ place_of s all
told_nowhere s rest all place e h = inverse (ap (later place) (empty_place s rest e)) ∙ h

pub told_here : (s t : Sym) (rest others all : List Sym) (place : ℕ) (b : Bool) → rest ≡ t ∷ others → b ≡ same_sym t s → b ≡ true → later place (place_of s rest) ≡ place_of s all → Some place ≡ place_of s all
told_here s t rest others all place b er eb et h =
    let is : place_of s (t ∷ others) ≡ Some 0 = ap (λ (x : Bool). if x then Some 0 else one_later (place_of s others)) (inverse eb ∙ et) in
    let same : place ≡ place + 0 = omega arith in
    ap (λ m. Some m) same ∙ inverse (ap (later place) (ap (place_of s) er ∙ is)) ∙ h

pub told_next : (s t : Sym) (rest others all : List Sym) (place next : ℕ) (b : Bool) → rest ≡ t ∷ others → b ≡ same_sym t s → b ≡ false → next ≡ place + 1 → later place (place_of s rest) ≡ place_of s all → later next (place_of s others) ≡ place_of s all
told_next s t rest others all place next b er eb ef en h =
    let is : place_of s (t ∷ others) ≡ one_later (place_of s others) = ap (λ (x : Bool). if x then Some 0 else one_later (place_of s others)) (inverse eb ∙ ef) in
    ap (λ k. later k (place_of s others)) en ∙ (later_one place (place_of s others) ∙ (inverse (ap (later place) (ap (place_of s) er ∙ is)) ∙ h))

pub ruleset place_rules = (told_begun, told_nowhere, told_here, told_next)

-- lists of one term
pub told_none : (y : ℕ) (ts : List Term) → length ts ≡ 0 → false ≡ is_object y ts
told_none y [] e = refl
told_none y (t ∷ ts) e = let no : ⊥ = cc in absurd no

pub told_one : (y : ℕ) (ts others : List Term) (t : Term) (b : Bool) → ts ≡ t ∷ others → length others ≡ 0 → b ≡ is_constant y t → b ≡ is_object y ts
told_one y ts [] t b e n h = h ∙ ap (is_object y) (inverse e)
told_one y ts (u ∷ us) t b e n h = let no : ⊥ = cc in absurd no

pub told_more : (y : ℕ) (ts others : List Term) (t : Term) → ts ≡ t ∷ others → (length others ≡ 0 → ⊥) → false ≡ is_object y ts
told_more y ts [] t e n = absurd (n refl)
told_more y ts (u ∷ us) t e n = ap (is_object y) (inverse e)

pub ruleset object_rules = (told_none, told_one, told_more)
