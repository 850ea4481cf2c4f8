-- Exports in the order of names.
use Rattle.std.proofs.Common.{◌≡◌, ◌<◌, ◌≤◌, ◌⊎◌, inl, inr, ℕ, Bool, true, false, List, [], ◌∷◌, ◌++◌, refl, sym, ap, ◌∙◌, arith, subst}
use Rattle.std.specs.Prelude.{nat_lt, if◌then◌else◌, Contains}
use Rattle.std.specs.List.{filter}
use Rattle.std.proofs.lemmas.Bool.Decides.{nat_tests}
use Rattle.std.proofs.lemmas.List.Elements.{All-contains, filter_passes}
use Rattle.std.proofs.lemmas.List.Kept.{AllPairs-filter}
use Rattle.mz_core.specs.declared.outcome.Export.{Export}
use Rattle.mz_axioms.specs.BuiltIn.{built_in_exports}
use Rattle.mz_axioms.specs.Library.{IsNamedBefore, AreInOrder, added}
use Rattle.mz_axioms.proofs.AddedLemmas.{here, there, first_or_later, pairs_first, pairs_later}
use Rattle.mz_turns.specs.Library.{IsLibrary}
use Rattle.mz_turns.proofs.NameLemmas.{in_none}

not_before_itself : (e : Export) → IsNamedBefore e e → ⊥
not_before_itself e h = let lt : e.name.number < e.name.number = h in omega arith

not_both : (e f : Export) → IsNamedBefore e f → IsNamedBefore f e → ⊥
not_both e f h k =
    let first : e.name.number < f.name.number = h in
    let second : f.name.number < e.name.number = k in
    omega arith

same_heads : (x y : Export) (xs ys : List Export) → AreInOrder (x ∷ xs) → AreInOrder (y ∷ ys) → (x ≡ y) ⊎ Contains ys x → (y ≡ x) ⊎ Contains xs y → x ≡ y
same_heads x y xs ys ox oy (inl e) q = e
same_heads x y xs ys ox oy (inr h) (inl e) = sym e
same_heads x y xs ys ox oy (inr h) (inr k) =
    absurd (not_both x y (All-contains (IsNamedBefore x) xs y (pairs_first x xs ox) k) (All-contains (IsNamedBefore y) ys x (pairs_first y ys oy) h))

in_rest : (x y e : Export) (xs ys : List Export) → AreInOrder (x ∷ xs) → x ≡ y → Contains xs e → (e ≡ y) ⊎ Contains ys e → Contains ys e
in_rest x y e xs ys ox same h (inl p) =
    let before : IsNamedBefore x e = All-contains (IsNamedBefore x) xs e (pairs_first x xs ox) h in
    absurd (not_before_itself x (subst (IsNamedBefore x) (p ∙ sym same) before))
in_rest x y e xs ys ox same h (inr k) = k

-- two lists in the order of names with the same members are equal
pub same_list : (xs ys : List Export) → AreInOrder xs → AreInOrder ys → ((e : Export) → Contains xs e → Contains ys e) → ((e : Export) → Contains ys e → Contains xs e) → xs ≡ ys
same_list [] [] ox oy f g = refl
same_list [] (y ∷ ys) ox oy f g = absurd (in_none y (g y (here y ys)))
same_list (x ∷ xs) [] ox oy f g = absurd (in_none x (f x (here x xs)))
same_list (x ∷ xs) (y ∷ ys) ox oy f g =
    let heads : x ≡ y = same_heads x y xs ys ox oy (first_or_later y x ys (f x (here x xs))) (first_or_later x y xs (g y (here y ys))) in
    let rest : xs ≡ ys =
    same_list xs ys (pairs_later x xs ox) (pairs_later y ys oy)
    (λ e h. in_rest x y e xs ys ox heads h (first_or_later y e ys (f e (there x e xs h))))
    (λ e h. in_rest y x e ys xs oy (sym heads) h (first_or_later x e xs (g e (there y e ys h)))) in
    λ i. heads i ∷ rest i

-- there is one library of some exports at most
pub library_once : (es fs library other : List Export) → es ≡ fs → IsLibrary es library → IsLibrary fs other → library ≡ other
library_once es fs library other e is_first is_second =
    let all = built_in_exports ++ es in
    let second : IsLibrary es other = subst (λ xs. IsLibrary xs other) (sym e) is_second in
    same_list library other is_first.in_order second.in_order
    (λ x h. All-contains (Contains other) all x second.has (All-contains (Contains all) library x is_first.only h))
    (λ x h. All-contains (Contains library) all x is_first.has (All-contains (Contains all) other x second.only h))

-- a filtered list
different : (b : Bool) → b ≡ false → b ≡ true → ⊥
different b p q = cc

from_first : (x e : Export) (xs ys : List Export) → (Contains ys e → Contains xs e) → (e ≡ x) ⊎ Contains ys e → Contains (x ∷ xs) e
from_first x e xs ys k (inl same) = subst (λ z. Contains (x ∷ xs) z) (sym same) (here x xs)
from_first x e xs ys k (inr h) = there x e xs (k h)

passed_if : (p : Export → Bool) (b : Bool) (x e : Export) (xs : List Export) → p x ≡ b → p e ≡ true → (e ≡ x) ⊎ Contains (filter p xs) e → Contains (if b then x ∷ filter p xs else filter p xs) e
passed_if p true x e xs t h (inl same) = subst (λ z. Contains (x ∷ filter p xs) z) (sym same) (here x (filter p xs))
passed_if p true x e xs t h (inr k) = there x e (filter p xs) k
passed_if p false x e xs t h (inl same) = absurd (different (p x) t (ap p (sym same) ∙ h))
passed_if p false x e xs t h (inr k) = k

later_passed : (p : Export → Bool) (x e : Export) (xs : List Export) → (Contains xs e → Contains (filter p xs) e) → (e ≡ x) ⊎ Contains xs e → (e ≡ x) ⊎ Contains (filter p xs) e
later_passed p x e xs k (inl same) = inl same
later_passed p x e xs k (inr h) = inr (k h)

pub in_filter : (p : Export → Bool) (xs : List Export) (e : Export) → Contains xs e → p e ≡ true → Contains (filter p xs) e
in_filter p [] e h t = absurd (in_none e h)
in_filter p (x ∷ xs) e h t =
    passed_if p (p x) x e xs refl t (later_passed p x e xs (λ k. in_filter p xs e k t) (first_or_later x e xs h))

from_passed : (b : Bool) (x e : Export) (xs ys : List Export) → (Contains ys e → Contains xs e) → Contains (if b then x ∷ ys else ys) e → Contains (x ∷ xs) e
from_passed true x e xs ys k h = from_first x e xs ys k (first_or_later x e ys h)
from_passed false x e xs ys k h = there x e xs (k h)

pub from_filter : (p : Export → Bool) (xs : List Export) (e : Export) → Contains (filter p xs) e → Contains xs e
from_filter p [] e h = h
from_filter p (x ∷ xs) e h = from_passed (p x) x e xs (filter p xs) (from_filter p xs e) h

pub filter_holds : (p : Export → Bool) (xs : List Export) (e : Export) → Contains (filter p xs) e → p e ≡ true
filter_holds p xs e h = All-contains (λ x. p x ≡ true) (filter p xs) e (filter_passes p xs) h

pub filter_in_order : (p : Export → Bool) (xs : List Export) → AreInOrder xs → AreInOrder (filter p xs)
filter_in_order p xs h = AllPairs-filter IsNamedBefore p xs h

-- exports of different names are added in either order
abbrev place : Bool → Export → Export → List Export → List Export → List Export
place b e f fs rest = if b then f ∷ rest else e ∷ f ∷ fs

lt_true : (a b : ℕ) → nat_lt a b ≡ true → a < b
lt_true a b h = grind (arith, nat_tests)

lt_false : (a b : ℕ) → nat_lt a b ≡ false → b ≤ a
lt_false a b h = grind (arith, nat_tests)

place-heads_if : (e f : Export) (l : List Export) (u v : Bool) → nat_lt f.name.number e.name.number ≡ u → nat_lt e.name.number f.name.number ≡ v → (e.name.number ≡ f.name.number → ⊥) → place u e f l (e ∷ l) ≡ place v f e l (f ∷ l)
place-heads_if e f l true true h k n = absurd (omega (arith, lt_true _ _ h, lt_true _ _ k))
place-heads_if e f l true false h k n = refl
place-heads_if e f l false true h k n = refl
place-heads_if e f l false false h k n = absurd (n (omega (arith, lt_false _ _ h, lt_false _ _ k)))

place-heads_commute : (e f : Export) (l : List Export) → (e.name.number ≡ f.name.number → ⊥) → place (nat_lt f.name.number e.name.number) e f l (e ∷ l) ≡ place (nat_lt e.name.number f.name.number) f e l (f ∷ l)
place-heads_commute e f l n = place-heads_if e f l (nat_lt f.name.number e.name.number) (nat_lt e.name.number f.name.number) refl refl n

less : (x e f : ℕ) → nat_lt x e ≡ true → nat_lt x f ≡ false → nat_lt f e ≡ true
less x e f h k = grind (arith, nat_tests)

added-commute_if : (e f x : Export) (l : List Export) → (e.name.number ≡ f.name.number → ⊥) → added e (added f l) ≡ added f (added e l) → (p q : Bool) → nat_lt x.name.number e.name.number ≡ p → nat_lt x.name.number f.name.number ≡ q → added e (place q f x l (added f l)) ≡ added f (place p e x l (added e l))
added-commute_if e f x l n step true true h k =
    ap (λ b. place b e x (added f l) (added e (added f l))) h ∙ (ap (λ r. x ∷ r) step ∙ sym (ap (λ b. place b f x (added e l) (added f (added e l))) k))
added-commute_if e f x l n step true false h k =
    ap (λ b. place b e f (x ∷ l) (added e (x ∷ l))) (less x.name.number e.name.number f.name.number h k) ∙ (ap (λ b. f ∷ place b e x l (added e l)) h ∙ sym (ap (λ b. place b f x (added e l) (added f (added e l))) k))
added-commute_if e f x l n step false true h k =
    ap (λ b. place b e x (added f l) (added e (added f l))) h ∙ (sym (ap (λ b. e ∷ place b f x l (added f l)) k) ∙ sym (ap (λ b. place b f e (x ∷ l) (added f (x ∷ l))) (less x.name.number f.name.number e.name.number k h)))
added-commute_if e f x l n step false false h k =
    ap (λ b. place (nat_lt f.name.number e.name.number) e f (x ∷ l) (place b e x l (added e l))) h ∙ (place-heads_commute e f (x ∷ l) n ∙ sym (ap (λ b. place (nat_lt e.name.number f.name.number) f e (x ∷ l) (place b f x l (added f l))) k))

pub added_commutes : (e f : Export) (l : List Export) → (e.name.number ≡ f.name.number → ⊥) → added e (added f l) ≡ added f (added e l)
added_commutes e f [] n = place-heads_commute e f [] n
added_commutes e f (x ∷ l) n = added-commute_if e f x l n (added_commutes e f l n) (nat_lt x.name.number e.name.number) (nat_lt x.name.number f.name.number) refl refl
