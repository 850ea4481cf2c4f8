-- The order of names is that of their bytes.
use Rattle.std.proofs.Common.{◌≡◌, ℕ, zero, suc, ◌+◌, ◌-◌, ◌*◌, ◌<◌, true, List, [], ◌∷◌, ◌++◌, length, replicate, refl, sym, ap, ◌∙◌, arith, IsTrue, lit<}
use Rattle.std.proofs.lemmas.Bool.Decides.{nat_tests}
use Rattle.std.proofs.Math.Nat.{mul-le-mul_right}
use Rattle.std.specs.List.{list_all}
use Rattle.std.specs.Int.{w64, from_be_bytes}
use Rattle.std.specs.Ordering.{nat_cmp, ordering_then, MatchOrdering}
use Rattle.std.specs.declared.cmp.Ordering.{Ordering}
use Rattle.std.specs.declared.cmp.Ordering.TheVariants.{Less, Equal, Greater}
use Rattle.std.specs.Cmp.{nat_cmp_is}
use Rattle.std.specs.Cmp.Lexicographic.{slice_cmp}
use Rattle.mz_base.specs.Name.{is_name_byte, is_name, is_raised_name, filled, number_of, text_of}
use Rattle.mz_base.proofs.NameLemmas.{and_left, and_right, is_name_byte_range, name_bytes, length-filled, is_name-is_raised_name}

-- 256, that often with itself
abbrev weight : ℕ → ℕ
weight zero = 1
weight (suc n) = 256 * weight n

-- the number of some bytes, most significant first
abbrev worth : List ℕ → ℕ
worth [] = 0
worth (b ∷ bs) = b * weight (length bs) + worth bs

abbrev AreBytes : List ℕ → Type 0
AreBytes [] = Unit {0}
AreBytes (b ∷ bs) = (b < 256) × AreBytes bs

from_be_bytes-worth : (bs : List ℕ) → length bs ≡ 8 → from_be_bytes w64 bs ≡ worth bs
from_be_bytes-worth [] p = cc
from_be_bytes-worth (a ∷ []) p = cc
from_be_bytes-worth (a ∷ b ∷ []) p = cc
from_be_bytes-worth (a ∷ b ∷ c ∷ []) p = cc
from_be_bytes-worth (a ∷ b ∷ c ∷ d ∷ []) p = cc
from_be_bytes-worth (a ∷ b ∷ c ∷ d ∷ e ∷ []) p = cc
from_be_bytes-worth (a ∷ b ∷ c ∷ d ∷ e ∷ f ∷ []) p = cc
from_be_bytes-worth (a ∷ b ∷ c ∷ d ∷ e ∷ f ∷ g ∷ []) p = cc
from_be_bytes-worth (a ∷ b ∷ c ∷ d ∷ e ∷ f ∷ g ∷ h ∷ []) p = omega arith
from_be_bytes-worth (a ∷ b ∷ c ∷ d ∷ e ∷ f ∷ g ∷ h ∷ i ∷ bs) p = absurd (omega arith)

below_next : (b w v : ℕ) → b < 256 → v < w → b * w + v < 256 * w
below_next b w v h k = omega (arith, mul-le-mul_right {m = suc b} {n = 256} w h)

worth-lt : (bs : List ℕ) → AreBytes bs → worth bs < weight (length bs)
worth-lt [] h = omega arith
worth-lt (b ∷ bs) h = below_next b (weight (length bs)) (worth bs) h.0 (worth-lt bs h.1)

-- what the comparison of two numbers says of them
nat_cmp_says : (x y : ℕ) → MatchOrdering (nat_cmp x y) (x < y) (x ≡ y) (y < x)
nat_cmp_says x y = grind (arith, nat_tests)

digits_says : (x y v w k : ℕ) (o r : Ordering) → v < k → w < k → MatchOrdering o (x < y) (x ≡ y) (y < x) → MatchOrdering r (v < w) (v ≡ w) (w < v) → MatchOrdering (ordering_then o r) (x * k + v < y * k + w) (x * k + v ≡ y * k + w) (y * k + w < x * k + v)
digits_says x y v w k Less r hv hw ho hr = omega (arith, mul-le-mul_right {m = suc x} {n = y} k ho)
digits_says x y v w k Greater r hv hw ho hr = omega (arith, mul-le-mul_right {m = suc y} {n = x} k ho)
digits_says x y v w k Equal Less hv hw ho hr = rw ho (omega arith)
digits_says x y v w k Equal Equal hv hw ho hr = rw (ho, hr) refl
digits_says x y v w k Equal Greater hv hw ho hr = rw ho (omega arith)

worth_says : (xs ys : List ℕ) → length xs ≡ length ys → AreBytes xs → AreBytes ys → MatchOrdering (slice_cmp nat_cmp xs ys) (worth xs < worth ys) (worth xs ≡ worth ys) (worth ys < worth xs)
worth_says [] [] e h k = refl
worth_says [] (y ∷ ys) e h k = cc
worth_says (x ∷ xs) [] e h k = cc
worth_says (x ∷ xs) (y ∷ ys) e h k =
    let tail : length xs ≡ length ys = omega arith in
    let below : worth ys < weight (length xs) = rw tail (worth-lt ys k.1) in
    rw (sym tail) (digits_says x y (worth xs) (worth ys) (weight (length xs)) (nat_cmp x y) (slice_cmp nat_cmp xs ys) (worth-lt xs h.1) below (nat_cmp_says x y) (worth_says xs ys tail h.1 k.1))

slice_cmp-zeros_equal : (n : ℕ) → slice_cmp nat_cmp (replicate n 0) (replicate n 0) ≡ Equal
slice_cmp-zeros_equal zero = refl
slice_cmp-zeros_equal (suc n) = slice_cmp-zeros_equal n

padded_cmp : (bs cs : List ℕ) (m n : ℕ) → length bs + m ≡ length cs + n → list_all is_name_byte bs ≡ true → list_all is_name_byte cs ≡ true → slice_cmp nat_cmp (bs ++ replicate m 0) (cs ++ replicate n 0) ≡ slice_cmp nat_cmp bs cs
padded_cmp [] [] m n e h k =
    let same : m ≡ n = omega arith in
    rw same (slice_cmp-zeros_equal n)
padded_cmp [] (c ∷ cs) zero n e h k = absurd (omega arith)
padded_cmp [] (c ∷ cs) (suc m) n e h k =
    let range = is_name_byte_range c (and_left _ _ k) in
    ap (λ o. ordering_then o (slice_cmp nat_cmp (replicate m 0) (cs ++ replicate n 0))) (sym (nat_cmp_is 0 c Less range.0))
padded_cmp (b ∷ bs) [] m zero e h k = absurd (omega arith)
padded_cmp (b ∷ bs) [] m (suc n) e h k =
    let range = is_name_byte_range b (and_left _ _ h) in
    ap (λ o. ordering_then o (slice_cmp nat_cmp (bs ++ replicate m 0) (replicate n 0))) (sym (nat_cmp_is b 0 Greater range.0))
padded_cmp (b ∷ bs) (c ∷ cs) m n e h k =
    let tail : length bs + m ≡ length cs + n = omega arith in
    ap (λ o. ordering_then (nat_cmp b c) o) (padded_cmp bs cs m n tail (and_right _ _ h) (and_right _ _ k))

zeros_bytes : (n : ℕ) → AreBytes (replicate n 0)
zeros_bytes zero = tt
zeros_bytes (suc n) = (lit< tt, zeros_bytes n)

padded_bytes : (bs : List ℕ) (n : ℕ) → list_all is_name_byte bs ≡ true → AreBytes (bs ++ replicate n 0)
padded_bytes [] n h = zeros_bytes n
padded_bytes (b ∷ bs) n h =
    let range = is_name_byte_range b (and_left _ _ h) in
    (omega arith, padded_bytes bs n (and_right _ _ h))

number_of-worth : (bs : List ℕ) → is_name bs ≡ true → number_of bs ≡ worth (filled bs)
unfolding number_of
number_of-worth bs h = from_be_bytes-worth (filled bs) (length-filled bs (name_bytes bs h).1)

-- the order of the numbers is that of the bytes
pub nat_cmp-number_of : (bs cs : List ℕ) → is_name bs ≡ true → is_name cs ≡ true → nat_cmp (number_of bs) (number_of cs) ≡ slice_cmp nat_cmp bs cs
nat_cmp-number_of bs cs h k =
    let first = name_bytes bs h in
    let second = name_bytes cs k in
    let same : length (filled bs) ≡ length (filled cs) = length-filled bs first.1 ∙ sym (length-filled cs second.1) in
    let says = worth_says (filled bs) (filled cs) same (padded_bytes bs (8 - length bs) first.0) (padded_bytes cs (8 - length cs) second.0) in
    let full : length bs + (8 - length bs) ≡ length cs + (8 - length cs) = omega (arith, first.1, second.1) in
    rw (number_of-worth bs h, number_of-worth cs k) (sym (nat_cmp_is (worth (filled bs)) (worth (filled cs)) _ says))
    ∙ padded_cmp bs cs (8 - length bs) (8 - length cs) full first.0 second.0

-- the same of names that are kept as numbers
pub nat_cmp-text_of : (m n : ℕ) → IsTrue (is_raised_name (text_of m)) → IsTrue (is_raised_name (text_of n)) → number_of (text_of m) ≡ m → number_of (text_of n) ≡ n → nat_cmp m n ≡ slice_cmp nat_cmp (text_of m) (text_of n)
nat_cmp-text_of m n h k p q =
    let names = nat_cmp-number_of (text_of m) (text_of n) (is_name-is_raised_name (text_of m) h) (is_name-is_raised_name (text_of n) k) in
    let numbers : nat_cmp m n ≡ nat_cmp (number_of (text_of m)) (number_of (text_of n)) = λ i. nat_cmp (sym p i) (sym q i) in
    numbers ∙ names
