-- Equal keys find the same entries.
use Rattle.std.proofs.Common.{◌≡◌, refl, ap, sym, true≢false}
use Rattle.std.specs.Prelude.{ℕ, true, nat_eq, List, Option, Some, None}
use Rattle.std.specs.Str.{bytes_eq}
use Rattle.std.specs.Ordering.{nat_cmp, ordering_then, is_eq, eq_by_cmp}
use Rattle.std.specs.Option.{option_cmp}
use Rattle.std.specs.Cmp.Lexicographic.{slice_cmp}
use Rattle.std.specs.declared.cmp.Ordering.{Ordering}
use Rattle.std.specs.declared.cmp.Ordering.TheVariants.{Less, Equal, Greater}
use Rattle.std.proofs.lemmas.Map.Lookups.{exact_pairs, exact_unsigned, exact_bytes}
use Rattle.mz_logic.specs.declared.sym.Sym.{Sym}
use Rattle.mz_environment.specs.Keys.{has_key, head_has}

-- the order of the parts of symbols
abbrev pub sym_cmp : (ℕ × ℕ) × ℕ → (ℕ × ℕ) × ℕ → Ordering
sym_cmp k q = ordering_then (ordering_then (nat_cmp k.0.0 q.0.0) (nat_cmp k.0.1 q.0.1)) (nat_cmp k.1 q.1)

as_equal : (o : Ordering) → is_eq o ≡ true → o ≡ Equal
as_equal Less e = absurd (true≢false (sym e))
as_equal Equal e = refl
as_equal Greater e = absurd (true≢false (sym e))

pub sym_exact : (k q : (ℕ × ℕ) × ℕ) → eq_by_cmp sym_cmp k q ≡ true → k ≡ q
sym_exact k q e =
    exact_pairs (λ (x y : ℕ × ℕ). ordering_then (nat_cmp x.0 y.0) (nat_cmp x.1 y.1)) nat_cmp
    (exact_pairs nat_cmp nat_cmp exact_unsigned exact_unsigned) exact_unsigned k q (as_equal (sym_cmp k q) e)

pub respects_key : (k q : (ℕ × ℕ) × ℕ) → eq_by_cmp sym_cmp k q ≡ true → (s : Sym) → has_key k s ≡ has_key q s
respects_key k q e s = ap (λ j. has_key j s) (sym_exact k q e)

pub respects_bytes : (k q : List ℕ) → is_eq (slice_cmp nat_cmp k q) ≡ true → (bytes : List ℕ) → bytes_eq bytes k ≡ bytes_eq bytes q
respects_bytes k q e bytes = ap (bytes_eq bytes) (exact_bytes k q (as_equal (slice_cmp nat_cmp k q) e))

pub respects_head : (k q : Option ((ℕ × ℕ) × ℕ)) → eq_by_cmp (option_cmp sym_cmp) k q ≡ true → (o : Option Sym) → head_has k o ≡ head_has q o
respects_head None None e o = refl
respects_head None (Some q) e o = absurd (true≢false (sym e))
respects_head (Some k) None e o = absurd (true≢false (sym e))
respects_head (Some k) (Some q) e o = ap (λ j. head_has (Some j) o) (sym_exact k q e)

pub respects_number : (k q : ℕ) → eq_by_cmp nat_cmp k q ≡ true → (n : ℕ) → nat_eq n k ≡ nat_eq n q
respects_number k q e n = ap (nat_eq n) (exact_unsigned k q (as_equal (nat_cmp k q) e))
