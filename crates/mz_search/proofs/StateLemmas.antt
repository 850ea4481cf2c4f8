-- Goals in any order, and states.
use Rattle.std.proofs.Common.{◌≡◌, ◌<◌, ◌≤◌, ◌+◌, ℕ, zero, suc, List, [], ◌∷◌, ◌++◌, length, refl, arith, ap, sym, ◌∙◌, take, get_or}
use Rattle.std.specs.Prelude.{IsPermutation}
use Rattle.std.specs.List.{AllByRecursion, sum_by}
use Rattle.std.proofs.lemmas.List.Sorted.{All-permutation, sum_by-IsPermutation}
use Rattle.std.proofs.lemmas.List.Sums.{sum_by-cons}
use Rattle.std.proofs.lemmas.List.Elements.{All-from_recursion, recursion_from_All}
use Rattle.mz_match.specs.Slots.{Assignment}
use Rattle.mz_search.specs.Goals.{Known, Goal, Refute, Meets, IsBelow, size_of, sizes}
use Rattle.mz_search.specs.States.{Solvable}

pub all_permuted : {X : Type 0} (P : X → Type 0) (xs ys : List X) → IsPermutation xs ys → AllByRecursion P xs → AllByRecursion P ys
all_permuted P xs ys p h = recursion_from_All P ys (All-permutation P xs ys p (All-from_recursion P xs h))

pub all_append : {X : Type 0} (P : X → Type 0) (xs ys : List X) → AllByRecursion P xs → AllByRecursion P ys → AllByRecursion P (xs ++ ys)
all_append P [] ys h k = k
all_append P (x ∷ xs) ys h k = (h.0, all_append P xs ys h.1 k)

pub all_left : {X : Type 0} (P : X → Type 0) (xs ys : List X) → AllByRecursion P (xs ++ ys) → AllByRecursion P xs
all_left P [] ys h = tt
all_left P (x ∷ xs) ys h = (h.0, all_left P xs ys h.1)

pub all_right : {X : Type 0} (P : X → Type 0) (xs ys : List X) → AllByRecursion P (xs ++ ys) → AllByRecursion P ys
all_right P [] ys h = h
all_right P (x ∷ xs) ys h = all_right P xs ys h.1

pub all_mapped : {X : Type 0} (P Q : X → Type 0) (xs : List X) → ((x : X) → P x → Q x) → AllByRecursion P xs → AllByRecursion Q xs
all_mapped P Q [] f h = tt
all_mapped P Q (x ∷ xs) f h = (f x h.0, all_mapped P Q xs f h.1)

sizes-sum : (gs : List Goal) → sum_by size_of gs ≡ sizes gs
sizes-sum [] = refl
sizes-sum (g ∷ gs) = sum_by-cons size_of g gs ∙ ap (λ n. size_of g + n) (sizes-sum gs)

pub sizes_permuted : (gs hs : List Goal) → IsPermutation gs hs → sizes hs ≡ sizes gs
sizes_permuted gs hs p = sym (sizes-sum hs) ∙ sum_by-IsPermutation size_of gs hs p ∙ sizes-sum gs

pub sizes-append : (gs hs : List Goal) → sizes (gs ++ hs) ≡ sizes gs + sizes hs
sizes-append [] hs = omega arith
sizes-append (g ∷ gs) hs = omega (arith, sizes-append gs hs)

pub solvable_permuted : (k : Known) (gs hs : List Goal) (e : Assignment) → IsPermutation gs hs → Solvable k gs e → Solvable k hs e
unfolding Solvable
solvable_permuted k gs hs e p h = (h.0, (h.1.0, all_permuted (Meets k h.0) gs hs p h.1.1))

pub below_more : (m n : ℕ) (scope : List ℕ) → m ≤ n → AllByRecursion (λ i. i < m) scope → AllByRecursion (λ i. i < n) scope
below_more m n scope le h = all_mapped (λ i. i < m) (λ i. i < n) scope (λ i lt. omega arith) h

pub goal_below_more : (m n : ℕ) (g : Goal) → m ≤ n → IsBelow m g → IsBelow n g
goal_below_more m n (Refute scope s f) le h = below_more m n scope le h

pub goals_below_more : (m n : ℕ) (gs : List Goal) → m ≤ n → AllByRecursion (IsBelow m) gs → AllByRecursion (IsBelow n) gs
goals_below_more m n gs le h = all_mapped (IsBelow m) (IsBelow n) gs (λ g w. goal_below_more m n g le w) h

-- one member more
take_suc : {X : Type 0} (xs : List X) (i : ℕ) (x : X) → i < length xs → x ≡ get_or xs i x → take (suc i) xs ≡ take i xs ++ x ∷ []
take_suc [] i x lt e = absurd (omega arith)
take_suc (y ∷ xs) zero x lt e = ap (λ z. z ∷ []) (sym e)
take_suc (y ∷ xs) (suc i) x lt e = ap (λ zs. y ∷ zs) (take_suc xs i x (omega arith) e)

pub take_next : {X : Type 0} (xs : List X) (i : ℕ) (x : X) → i < length xs → x ≡ get_or xs i x → take (i + 1) xs ≡ take i xs ++ x ∷ []
take_next xs i x lt e = let s : i + 1 ≡ suc i = omega arith in ap (λ n. take n xs) s ∙ take_suc xs i x lt e
