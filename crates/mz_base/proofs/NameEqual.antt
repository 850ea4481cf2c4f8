-- Names with equal numbers are equal.
use Rattle.std.proofs.Common.{◌≡◌, ℕ}
use Rattle.std.proofs.Math.Bool.{Bool-set}
use native.Mathlib.Nat.{ℕ_set}
use mathlib.Core.HLevel.{is_prop→PathP}
use Rattle.mz_base.specs.declared.name.Name.{Name, named-type, spelled-type}

named_prop : (n : ℕ) → IsProp (named-type n)
named_prop n = hlevel Bool-set

spelled_prop : (n : ℕ) (named : named-type n) → IsProp (spelled-type n named)
spelled_prop n named = hlevel ℕ_set

pub Name-equal : (a b : Name) → a.number ≡ b.number → a ≡ b
Name-equal a b e =
    let named = is_prop→PathP (λ i. named-type (e i)) (λ i. named_prop (e i)) a.named b.named in
    let spelled = is_prop→PathP (λ i. spelled-type (e i) (named i)) (λ i. spelled_prop (e i) (named i)) a.spelled b.spelled in
    λ i. record { number = e i; named = named i; spelled = spelled i }
