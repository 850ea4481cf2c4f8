-- Members of lists, of lists put together, and of lists that have a property.
use Rattle.std.proofs.Common.{◌≡◌, ◌⊎◌, inl, inr, Bool, true, List, [], ◌∷◌, ◌++◌, sym, subst}
use Rattle.std.specs.Prelude.{Contains, flat_map}
use Rattle.std.specs.List.{list_all}
use Rattle.std.proofs.lemmas.Bool.{and_parts}
use Rattle.std.proofs.lemmas.List.Elements.{Contains-append_left, Contains-append_right, Contains-append_cases}
use Rattle.mz_ground.proofs.ListLemmas.{contains_none, contains_first, contains_later, contains_cases}

pub member_passes : {X : Type 0} (p : X → Bool) (xs : List X) (x : X) → list_all p xs ≡ true → Contains xs x → p x ≡ true
member_passes p [] x h is = absurd (contains_none x is)
member_passes p (y ∷ ys) x h is =
    let both : (p y ≡ true) × (list_all p ys ≡ true) = and_parts (p y) (list_all p ys) h in
    elim (contains_cases y x ys is) [ inl same ↦ subst (λ z. p z ≡ true) same both.0 | inr later ↦ member_passes p ys x both.1 later ]

-- where it comes from
pub from_flat : {X Y : Type 0} (f : X → List Y) (xs : List X) (y : Y) → Contains (flat_map f xs) y → (x : X) × Contains xs x × Contains (f x) y
from_flat f [] y is = absurd (contains_none y is)
from_flat f (x ∷ xs) y is = elim (Contains-append_cases (f x) (flat_map f xs) y is) [
  | inl front ↦ (x, contains_first x xs, front)
  | inr back ↦ let later = from_flat f xs y back in (later.0, contains_later x later.0 xs later.1, later.2)
]

pub to_flat : {X Y : Type 0} (f : X → List Y) (xs : List X) (x : X) (y : Y) → Contains xs x → Contains (f x) y → Contains (flat_map f xs) y
to_flat f [] x y h k = absurd (contains_none x h)
to_flat f (z ∷ zs) x y h k = elim (contains_cases z x zs h) [
  | inl same ↦ Contains-append_left (f z) (flat_map f zs) y (subst (λ u. Contains (f u) y) (sym same) k)
  | inr later ↦ Contains-append_right (f z) (flat_map f zs) y (to_flat f zs x y later k)
]
