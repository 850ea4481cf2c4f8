-- The export of a name in a list of what holds exports.
use Rattle.std.proofs.Common.{◌≡◌, ◌<◌, ℕ, List, [], ◌∷◌, map, length, refl, sym, ap, ◌∙◌, subst, arith, Bool, true, false}
use Rattle.std.specs.Prelude.{nat_eq, if◌then◌else◌, Option, Some, None, MatchOption}
use Rattle.std.proofs.lemmas.Bool.{eq-eqb, ne_eqb}
use Rattle.mz_core.specs.declared.outcome.Export.{Export}
use Rattle.mz_env.specs.Visits.{export_named}

-- what is answered is the export of the name
abbrev pub IsNamed : {Y Z : Type 0} → (Y → Export) → (Z → Export) → List Y → ℕ → Option Z → Type 0
IsNamed g v ys n r = MatchOption r (export_named (map g ys) n ≡ None) (λ z. export_named (map g ys) n ≡ Some (v z))

if-chosen_first : {X : Type 0} (b : Bool) (x y : X) → b ≡ true → (if b then x else y) ≡ x
if-chosen_first true x y h = refl
if-chosen_first false x y h = cc

if-chosen_last : {X : Type 0} (b : Bool) (x y : X) → b ≡ false → (if b then x else y) ≡ y
if-chosen_last true x y h = cc
if-chosen_last false x y h = refl

pub export_named-none_found : {Y : Type 0} (g : Y → Export) (ys : List Y) (n : ℕ) → length ys ≡ 0 → export_named (map g ys) n ≡ None
export_named-none_found g [] n h = refl
export_named-none_found g (y ∷ ys) n h = absurd (omega (arith, h))

pub export_named-here_found : {Y : Type 0} (g : Y → Export) (ys : List Y) (y : Y) (rest : List Y) (n : ℕ) → ys ≡ y ∷ rest → (g y).name.number ≡ n → export_named (map g ys) n ≡ Some (g y)
export_named-here_found g ys y rest n e same =
    ap (λ zs. export_named (map g zs) n) e ∙ if-chosen_first (nat_eq (g y).name.number n) (Some (g y)) (export_named (map g rest) n) (eq-eqb (g y).name.number n same)

past : {Y Z : Type 0} (g : Y → Export) (v : Z → Export) (y : Y) (rest : List Y) (n : ℕ) (r : Option Z) → ((g y).name.number ≡ n → ⊥) → IsNamed g v rest n r → IsNamed g v (y ∷ rest) n r
past g v y rest n None other h = if-chosen_last (nat_eq (g y).name.number n) (Some (g y)) (export_named (map g rest) n) (ne_eqb (g y).name.number n other) ∙ h
past g v y rest n (Some z) other h = if-chosen_last (nat_eq (g y).name.number n) (Some (g y)) (export_named (map g rest) n) (ne_eqb (g y).name.number n other) ∙ h

pub later_found : {Y Z : Type 0} (g : Y → Export) (v : Z → Export) (ys : List Y) (y : Y) (rest : List Y) (n : ℕ) (r : Option Z) → ys ≡ y ∷ rest → ((g y).name.number ≡ n → ⊥) → IsNamed g v rest n r → IsNamed g v ys n r
later_found g v ys y rest n r e other h = subst (λ zs. IsNamed g v zs n r) (sym e) (past g v y rest n r other h)
