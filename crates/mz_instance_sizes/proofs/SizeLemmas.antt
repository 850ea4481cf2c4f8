-- Sizes beside each other.
use Rattle.std.proofs.Common.{◌≡◌, ◌+◌, ℕ, suc, refl, arith, true, false}
use Rattle.std.specs.Prelude.{◌&&◌, nat_le, min, max}
use Rattle.std.proofs.lemmas.Bool.{le-leb, lt-leb, leb-true, leb-false}
use Rattle.mz_instance_sizes.specs.Sizes.{capped, is_kept, nothing, above, beside}
use Rattle.mz_instance_sizes.specs.declared.size.Size.{Size}

abbrev sized : ℕ → ℕ → Size
sized n d = record { nodes = n; depth = d }

size_is : (a b c d : ℕ) → a ≡ b → c ≡ d → sized a c ≡ sized b d
size_is a b c d p q = λ i. sized (p i) (q i)

-- caps
min-min : (m n : ℕ) → min (min m n) n ≡ min m n
min-min m n = omega arith

pub above-capped : (n d : ℕ) → above (capped n d) ≡ capped (suc n) (suc d)
above-capped n d = size_is (min (suc (min n 65537)) 65537) (min (suc n) 65537) (min (suc (min d 513)) 513) (min (suc d) 513) (omega arith) (omega arith)

pub beside-capped : (m n c d : ℕ) → beside (capped m c) (capped n d) ≡ capped (m + n) (max c d)
beside-capped m n c d =
    size_is (min (min m 65537 + min n 65537) 65537) (min (m + n) 65537) (min (max (min c 513) (min d 513)) 513) (min (max c d) 513) (omega arith) (omega arith)

pub beside-assoc : (x y z : Size) → beside (beside x y) z ≡ beside x (beside y z)
beside-assoc x y z =
    size_is (min (min (x.nodes + y.nodes) 65537 + z.nodes) 65537) (min (x.nodes + min (y.nodes + z.nodes) 65537) 65537)
    (min (max (min (max x.depth y.depth) 513) z.depth) 513) (min (max x.depth (min (max y.depth z.depth) 513)) 513) (omega arith) (omega arith)

pub beside-nothing : (x : Size) → beside x nothing ≡ beside nothing x
beside-nothing x = size_is (min (x.nodes + 0) 65537) (min (0 + x.nodes) 65537) (min (max x.depth 0) 513) (min (max 0 x.depth) 513) (omega arith) (omega arith)

-- within the limits
kept : (n most : ℕ) → nat_le (min n (suc most)) most ≡ nat_le n most
kept n most = elim (nat_le n most) as (λ t. nat_le n most ≡ t → nat_le (min n (suc most)) most ≡ t) [
  | true ↦ (λ e. le-leb (min n (suc most)) most (omega (arith, leb-true n most e)))
  | false ↦ (λ e. lt-leb (min n (suc most)) most (omega (arith, leb-false n most e)))
] refl

pub kept-capped : (n d : ℕ) → is_kept (capped n d) ≡ (nat_le n 65536 && nat_le d 512)
kept-capped n d = λ i. kept n 65536 i && kept d 512 i
