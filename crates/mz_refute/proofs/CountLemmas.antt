-- Lists with the same members, each once, are equally long.
use Rattle.std.proofs.Common.{◌≡◌, ◌≤◌, ◌<◌, ℕ, zero, suc, List, [], ◌∷◌, length, get_or, refl, sym, ◌∙◌, arith}
use Rattle.std.specs.Prelude.{◌≢◌, Contains, AllPairs}
use Rattle.mz_refute.specs.Counted.{IsCount}

-- the list without the member at an index
abbrev dropped : {A : Type 0} → ℕ → List A → List A
dropped k [] = []
dropped zero (x ∷ xs) = xs
dropped (suc k) (x ∷ xs) = x ∷ dropped k xs

length-dropped : {A : Type 0} (k : ℕ) (xs : List A) → k < length xs → suc (length (dropped k xs)) ≡ length xs
length-dropped k [] lt = absurd (omega arith)
length-dropped zero (x ∷ xs) lt = refl
length-dropped (suc k) (x ∷ xs) lt =
    let e : suc (length (dropped k xs)) ≡ length xs = length-dropped k xs (omega arith) in
    omega (arith, e)

Contains-next : {A : Type 0} (x z : A) (xs : List A) → Contains xs z → Contains (x ∷ xs) z
Contains-next x z xs c = (suc c.0, omega (arith, c.1), c.2)

-- another member than the one at the index stays
Contains-dropped : {A : Type 0} (k : ℕ) (xs : List A) (x z : A) → k < length xs → get_or xs k x ≡ x → (z ≡ x → ⊥) → Contains xs z → Contains (dropped k xs) z
Contains-dropped k [] x z lt at other c = absurd (omega arith)
Contains-dropped zero (y ∷ ys) x z lt at other (zero, l, e) = absurd (other (sym e ∙ at))
Contains-dropped zero (y ∷ ys) x z lt at other (suc i, l, e) = (i, omega arith, e)
Contains-dropped (suc k) (y ∷ ys) x z lt at other (zero, l, e) = (0, omega arith, e)
Contains-dropped (suc k) (y ∷ ys) x z lt at other (suc i, l, e) = Contains-next y z (dropped k ys) (Contains-dropped k ys x z (omega arith) at other (i, omega arith, e))

AllPairs-tail : {A : Type 0} (x : A) (xs : List A) → AllPairs (λ a b. a ≢ b) (x ∷ xs) → AllPairs (λ a b. a ≢ b) xs
AllPairs-tail x xs h i j d lt within = h (suc i) (suc j) d (omega arith) (omega arith)

differs : {A : Type 0} (x z : A) (xs : List A) → AllPairs (λ a b. a ≢ b) (x ∷ xs) → Contains xs z → z ≡ x → ⊥
differs x z xs h c e = h 0 (suc c.0) z (omega arith) (omega (arith, c.1)) (sym e ∙ sym c.2)

-- distinct members of a list are no more than it has
pub length-le_distinct : {A : Type 0} (xs ys : List A) → AllPairs (λ a b. a ≢ b) xs → ((z : A) → Contains xs z → Contains ys z) → length xs ≤ length ys
length-le_distinct [] ys h within = omega arith
length-le_distinct (x ∷ xs) ys h within =
    let at : Contains ys x = within x (0, omega arith, refl) in
    let rest : length xs ≤ length (dropped at.0 ys) =
    length-le_distinct xs (dropped at.0 ys) (AllPairs-tail x xs h)
    (λ z c. Contains-dropped at.0 ys x z at.1 at.2 (differs x z xs h c) (within z (Contains-next x z xs c))) in
    let e : suc (length (dropped at.0 ys)) ≡ length ys = length-dropped at.0 ys at.1 in
    omega (arith, rest, e)

-- a fact holds of one number of values
pub one_count : {A : Type 0} (P : A → Type 0) (m n : ℕ) → IsCount P m → IsCount P n → m ≡ n
one_count P m n a b =
    let up : length a.values ≤ length b.values = length-le_distinct a.values b.values a.distinct (λ z c. (b.members z).1 ((a.members z).0 c)) in
    let down : length b.values ≤ length a.values = length-le_distinct b.values a.values b.distinct (λ z c. (a.members z).1 ((b.members z).0 c)) in
    let ea : length a.values ≡ m = a.number in
    let eb : length b.values ≡ n = b.number in
    omega (arith, up, down, ea, eb)
