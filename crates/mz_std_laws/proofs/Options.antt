-- Options that are equal.
use Rattle.std.proofs.Common.{◌≡◌, ap, Option, Some, None}

-- where two options are equal, so is what they hold
pub some-inj : {A : Type 0} (x y : A) → Some x ≡ Some y → x ≡ y
some-inj x y e = ap (λ o. or_else o x) e
  where
    or_else : {A : Type 0} → Option A → A → A
    or_else None d = d
    or_else (Some z) d = z

-- none isn't some
pub none_some : {A : Type 0} (x : A) → None ≡ Some x → ⊥
none_some x e = cc
