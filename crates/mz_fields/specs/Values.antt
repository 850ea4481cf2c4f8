-- What stands for the fields of a structure's object in their types: for a selector of the object, which is a constant, the constant of the
-- field's value.
use Rattle.std.specs.Prelude.{ℕ, zero, suc, ◌+◌, Bool, true, false, nat_eq, if◌then◌else◌, List, [], ◌∷◌, map, Option, Some, None}
use Rattle.mz_logic.specs.Sym.{same_sym}
use Rattle.mz_logic.specs.Term.{Term, Terms, Bound, Const, App, none, more, list_of}
use Rattle.mz_logic.specs.declared.sym.Sym.{Sym}
use Rattle.mz_core.specs.declared.adjective.Adjective.{Adjective}
use Rattle.mz_core.specs.declared.radix.Radix.{Radix}
use Rattle.mz_core.specs.declared.soft_type.SoftType.{SoftType}

-- the place of a selector among those of the fields, from 0
abbrev pub one_later : Option ℕ → Option ℕ
one_later None = None
one_later (Some k) = Some (suc k)

abbrev pub place_of : Sym → List Sym → Option ℕ
place_of s [] = None
place_of s (t ∷ ts) = if same_sym t s then Some 0 else one_later (place_of s ts)

-- the terms are the constant y alone
abbrev pub is_constant : ℕ → Term → Bool
is_constant y (Bound index) = false
is_constant y (Const number) = nat_eq number y
is_constant y (App s ts) = false

abbrev pub is_object : ℕ → List Term → Bool
is_object y [] = false
is_object y (t ∷ []) = is_constant y t
is_object y (t ∷ u ∷ ts) = false

-- the field whose selector is applied to the object y, if it is one of them
abbrev pub field_at : ℕ → List Sym → Sym → List Term → Option ℕ
field_at y selectors s ts = if is_object y ts then place_of s selectors else None

-- the value of the field at a place, where the values are the constants from `first` on; the term where there is none
abbrev pub value_or : ℕ → Option ℕ → Term → Term
value_or first None t = t
value_or first (Some k) t = Const (first + k)

abbrev mutual
  pub with_values : ℕ → ℕ → List Sym → Term → Term
  with_values y first selectors (Bound index) = Bound index
  with_values y first selectors (Const number) = Const number
  with_values y first selectors (App s ts) = value_or first (field_at y selectors s (list_of ts)) (App s (args_with_values y first selectors ts))

  pub args_with_values : ℕ → ℕ → List Sym → Terms → Terms
  args_with_values y first selectors none = none
  args_with_values y first selectors (more t ts) = more (with_values y first selectors t) (args_with_values y first selectors ts)

abbrev pub adjective_with_values : ℕ → ℕ → List Sym → Adjective → Adjective
adjective_with_values y first selectors a = record { positive = a.positive; sym = a.sym; args = map (with_values y first selectors) a.args }

abbrev pub radix_with_values : ℕ → ℕ → List Sym → Radix → Radix
radix_with_values y first selectors r = record { sym = r.sym; args = map (with_values y first selectors) r.args }

abbrev pub type_with_values : ℕ → ℕ → List Sym → SoftType → SoftType
type_with_values y first selectors ty = record { adjectives = map (adjective_with_values y first selectors) ty.adjectives; radix = radix_with_values y first selectors ty.radix }
