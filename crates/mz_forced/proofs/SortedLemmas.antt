-- Lists of literals in their order.
use Rattle.std.proofs.Common.{◌≡◌, ◌⊎◌, ◌<◌, ◌≤◌, inl, inr, ℕ, zero, suc, List, [], ◌∷◌, length, refl, arith, ap, sym, ◌∙◌, subst, Bool, true, false}
use Rattle.std.specs.Prelude.{Contains, AllPairs, ◌≢◌, slice_index_or}
use Rattle.std.specs.List.{AllByRecursion}
use Rattle.std.specs.List.Sorted.{IsStrictlySortedBy}
use Rattle.std.specs.declared.cmp.Ordering.{Ordering}
use Rattle.std.specs.declared.cmp.Ordering.TheVariants.{Less, Equal, Greater}
use Rattle.std.specs.Ordering.{on, nat_cmp, bool_cmp, ordering_then, ordering_reverse}
use Rattle.std.specs.Cmp.{IsTotalOrder}
use Rattle.std.proofs.lemmas.Cmp.{on_total}
use Rattle.mz_logic.specs.declared.sym.Sym.{Sym}
use Rattle.mz_logic.specs.declared.kind.Kind.TheVariants.{Mode}
use Rattle.mz_logic.specs.Term.{Term, Const, App, terms_of}
use Rattle.mz_logic.specs.Order.{sym_cmp, term_cmp, args_cmp, terms_cmp, literal_cmp}
use Rattle.mz_logic.specs.declared.literal.Literal.{Literal}
use Rattle.mz_logic.specs.declared.literal.Literal.TheVariants.{Atom, Eq}
use Rattle.mz_logic.proofs.OrderLemmas.{then_end, term_cmp_total}
use Rattle.mz_refute.proofs.CountLemmas.{length-le_distinct}
use Rattle.mz_forced.specs.Sorted.{AreAscending, AreFirstOf, AreAllOf}

-- a literal as a term, by which the order of literals is that of terms
abbrev sign_number : Bool → ℕ
sign_number false = 0
sign_number true = 1

abbrev atoms : Sym
atoms = record { article = 0; kind = Mode; number = 0 }

abbrev equations : Sym
equations = record { article = 0; kind = Mode; number = 1 }

abbrev literal_key : Literal → Term
literal_key (Atom p s ts) = App atoms (terms_of (Const (sign_number p) ∷ App s (terms_of ts) ∷ []))
literal_key (Eq p t u) = App equations (terms_of (Const (sign_number p) ∷ t ∷ u ∷ []))

sign_cmp : (p q : Bool) → bool_cmp p q ≡ nat_cmp (sign_number p) (sign_number q)
sign_cmp false false = refl
sign_cmp false true = refl
sign_cmp true false = refl
sign_cmp true true = refl

literal_cmp-key : (l m : Literal) → literal_cmp l m ≡ term_cmp (literal_key l) (literal_key m)
unfolding literal_cmp term_cmp terms_cmp
literal_cmp-key (Atom p r ts) (Atom q s us) =
    λ i. ordering_then (sign_cmp p q i) (sym (then_end (ordering_then (sym_cmp r s) (args_cmp (terms_of ts) (terms_of us)))) i)
literal_cmp-key (Atom p r ts) (Eq q v w) = refl
literal_cmp-key (Eq p t u) (Atom q s us) = refl
literal_cmp-key (Eq p t u) (Eq q v w) =
    λ i. ordering_then (sign_cmp p q i) (ordering_then (term_cmp t v) (sym (then_end (term_cmp u w)) i))

pub literal_cmp_total : IsTotalOrder literal_cmp
literal_cmp_total =
    let same : literal_cmp ≡ on literal_key term_cmp = λ i l m. literal_cmp-key l m i in
    subst IsTotalOrder (sym same) (on_total literal_key term_cmp_total)

-- none comes before itself, nor before one that comes before it
not_less : Less ≡ Greater → ⊥
not_less e = cc

turned : (o p : Ordering) → o ≡ ordering_reverse p → o ≡ Less → p ≡ Less → ⊥
turned o Less e h k = not_less (sym h ∙ e)
turned o Equal e h k = cc
turned o Greater e h k = cc

pub not_both : (l m : Literal) → literal_cmp l m ≡ Less → literal_cmp m l ≡ Less → ⊥
not_both l m h k = turned (literal_cmp l m) (literal_cmp m l) (literal_cmp_total.antisymm l m) h k

pub not_itself : (l m : Literal) → l ≡ m → literal_cmp l m ≡ Less → ⊥
not_itself l m e h = not_both l m h (subst (λ x. literal_cmp x l ≡ Less) e (subst (λ x. literal_cmp l x ≡ Less) (sym e) h))

-- members
pub here : {X : Type 0} (x : X) (xs : List X) → Contains (x ∷ xs) x
here x xs = (zero, omega arith, refl)

pub there : {X : Type 0} (x y : X) (xs : List X) → Contains xs x → Contains (y ∷ xs) x
there x y xs h = (suc h.0, omega (arith, h.1), h.2)

pub member_cases : {X : Type 0} (x y : X) (xs : List X) → Contains (y ∷ xs) x → (y ≡ x) ⊎ Contains xs x
member_cases x y xs (zero, lt, e) = inl e
member_cases x y xs (suc k, lt, e) = inr (k, omega arith, e)

pub no_member : {X : Type 0} (x : X) → Contains [] x → ⊥
no_member x h = omega (arith, h.1)

pub all_member : {X : Type 0} (P : X → Type 0) (xs : List X) (x : X) → AllByRecursion P xs → Contains xs x → P x
all_member P [] x a h = absurd (no_member x h)
all_member P (y ∷ xs) x a h = elim (member_cases x y xs h) [ inl e ↦ subst P e a.0 | inr k ↦ all_member P xs x a.1 k ]

-- the parts of an ascending list
pub head_first : (x : Literal) (xs : List Literal) → AreAscending (x ∷ xs) → AllByRecursion (λ y. literal_cmp x y ≡ Less) xs
unfolding IsStrictlySortedBy
head_first x xs h = h.0

pub rest_ascending : (x : Literal) (xs : List Literal) → AreAscending (x ∷ xs) → AreAscending xs
unfolding IsStrictlySortedBy
rest_ascending x xs h = h.1

-- ascending lists with the same members are one
first_same : (x y : Literal) (xs ys : List Literal) → AreAscending (x ∷ xs) → AreAscending (y ∷ ys) → Contains (y ∷ ys) x → Contains (x ∷ xs) y → x ≡ y
first_same x y xs ys a b m n =
    elim (member_cases x y ys m) [
      | inl e ↦ sym e
      | inr k ↦
          elim (member_cases y x xs n) [
            | inl e ↦ e
            | inr j ↦ absurd (not_both y x (all_member (λ z. literal_cmp y z ≡ Less) ys x (head_first y ys b) k) (all_member (λ z. literal_cmp x z ≡ Less) xs y (head_first x xs a) j))
          ]
    ]

rest_member : (x y z : Literal) (xs ys : List Literal) → x ≡ y → AreAscending (x ∷ xs) → Contains xs z → Contains (y ∷ ys) z → Contains ys z
rest_member x y z xs ys e a m n =
    elim (member_cases z y ys n) [
      | inl q ↦ absurd (not_itself x z (e ∙ q) (all_member (λ w. literal_cmp x w ≡ Less) xs z (head_first x xs a) m))
      | inr k ↦ k
    ]

pub one_list : (ls ms : List Literal) → AreAscending ls → AreAscending ms → ((l : Literal) → Contains ls l → Contains ms l) → ((l : Literal) → Contains ms l → Contains ls l) → ls ≡ ms
one_list [] [] a b f g = refl
one_list [] (y ∷ ys) a b f g = absurd (no_member y (g y (here y ys)))
one_list (x ∷ xs) [] a b f g = absurd (no_member x (f x (here x xs)))
one_list (x ∷ xs) (y ∷ ys) a b f g =
    let e : x ≡ y = first_same x y xs ys a b (f x (here x xs)) (g y (here y ys)) in
    let r : xs ≡ ys =
    one_list xs ys (rest_ascending x xs a) (rest_ascending y ys b)
    (λ z m. rest_member x y z xs ys e a m (f z (there z x xs m)))
    (λ z m. rest_member y x z ys xs (sym e) b m (g z (there z y ys m))) in
    λ i. e i ∷ r i

pub one_all : (P : Literal → Type 0) (ls ms : List Literal) → AreAllOf P ls → AreAllOf P ms → ls ≡ ms
one_all P ls ms a b = one_list ls ms a.ascending b.ascending (λ l m. (b.members l).1 ((a.members l).0 m)) (λ l m. (a.members l).1 ((b.members l).0 m))

-- the members of an ascending list differ
distinct_from : (x : Literal) (xs : List Literal) → AllByRecursion (λ y. literal_cmp x y ≡ Less) xs → (k : ℕ) (d : Literal) → k < length xs → x ≡ slice_index_or xs k d → ⊥
distinct_from x [] h k d lt e = omega arith
distinct_from x (y ∷ xs) h zero d lt e = not_itself x y e h.0
distinct_from x (y ∷ xs) h (suc k) d lt e = distinct_from x xs h.1 k d (omega arith) e

pub ascending_distinct : (ls : List Literal) → AreAscending ls → AllPairs (λ l m. l ≢ m) ls
ascending_distinct [] a i j d lt within = absurd (omega arith)
ascending_distinct (x ∷ xs) a zero zero d lt within = absurd (omega arith)
ascending_distinct (x ∷ xs) a zero (suc j) d lt within = distinct_from x xs (head_first x xs a) j d (omega arith)
ascending_distinct (x ∷ xs) a (suc i) zero d lt within = absurd (omega arith)
ascending_distinct (x ∷ xs) a (suc i) (suc j) d lt within = ascending_distinct xs (rest_ascending x xs a) i j d (omega arith) (omega arith)

read_again : (ms : List Literal) (j : ℕ) (d : Literal) → slice_index_or ms j (slice_index_or ms j d) ≡ slice_index_or ms j d
read_again [] j d = refl
read_again (m ∷ ms) zero d = refl
read_again (m ∷ ms) (suc j) d = read_again ms j d

member_here : (ms : List Literal) (j : ℕ) (d : Literal) → j < length ms → Contains ms (slice_index_or ms j d)
member_here ms j d lt = (j, lt, read_again ms j d)

longer_distinct : (l : Literal) (ms : List Literal) → ((m : Literal) → Contains ms m → literal_cmp m l ≡ Less) → AllPairs (λ x y. x ≢ y) ms → AllPairs (λ x y. x ≢ y) (l ∷ ms)
longer_distinct l ms f h zero zero d lt within = absurd (omega arith)
longer_distinct l ms f h zero (suc j) d lt within = λ e. not_itself (slice_index_or ms j d) l (sym e) (f (slice_index_or ms j d) (member_here ms j d (omega arith)))
longer_distinct l ms f h (suc i) zero d lt within = absurd (omega arith)
longer_distinct l ms f h (suc i) (suc j) d lt within = h i j d (omega arith) (omega arith)

-- a member of the first list of n is one of the second: else the second has n before it, which the first has too
first_members : (n : ℕ) (P : Literal → Type 0) (ls ms : List Literal) → AreFirstOf n P ls → AreFirstOf n P ms → (l : Literal) → Contains ls l → Contains ms l
first_members n P ls ms a b l m =
    elim (b.others l (a.each l m)) [
      | inl k ↦ k
      | inr full ↦
          let among : (x : Literal) → Contains (l ∷ ms) x → Contains ls x =
          λ x h. elim (member_cases x l ms h) [
            | inl e ↦ subst (λ y. Contains ls y) e m
            | inr k ↦ elim (a.others x (b.each x k)) [ inl j ↦ j | inr other ↦ absurd (not_both l x (other.1 l m) (full.1 x k)) ]
          ] in
          let pairs : AllPairs (λ x y. x ≢ y) (l ∷ ms) = longer_distinct l ms full.1 (ascending_distinct ms b.ascending) in
          let le : length (l ∷ ms) ≤ length ls = length-le_distinct (l ∷ ms) ls pairs among in
          let q : length ms ≡ n = full.0 in
          let few : length ls ≤ n = a.few in
          absurd (omega (arith, le, q, few))
    ]

pub one_first : (n : ℕ) (P : Literal → Type 0) (ls ms : List Literal) → AreFirstOf n P ls → AreFirstOf n P ms → ls ≡ ms
one_first n P ls ms a b = one_list ls ms a.ascending b.ascending (first_members n P ls ms a b) (first_members n P ms ls b a)
