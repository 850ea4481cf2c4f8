-- Rows up to repetition.
use Rattle.std.proofs.Common.{◌≡◌, inl, inr, ℕ, List, [], ◌∷◌, ◌++◌, refl, ◌∙◌, sym, subst}
use Rattle.mz_match.specs.Rows.{SomeOf}
use Rattle.mz_refute.specs.Entries.{HaveSameMembers}
use Rattle.mz_match.proofs.SomeLemmas.{some_map, some_left, some_right, some_cases}

pub same_lists : {X : Type 0} (xs ys : List X) → xs ≡ ys → HaveSameMembers xs ys
same_lists {X} xs ys e p = (λ h. subst (λ (zs : List X). SomeOf (λ z. z ≡ p) zs) e h, λ h. subst (λ (zs : List X). SomeOf (λ z. z ≡ p) zs) (sym e) h)

appended_one : {X : Type 0} (xs ys zs : List X) → HaveSameMembers xs ys → (p : X) → SomeOf (λ x. x ≡ p) (xs ++ zs) → SomeOf (λ x. x ≡ p) (ys ++ zs)
appended_one {X} xs ys zs h p k = elim (some_cases (λ x. x ≡ p) xs zs k) [ inl a ↦ some_left (λ x. x ≡ p) ys zs ((h p).0 a) | inr b ↦ some_right (λ x. x ≡ p) ys zs b ]

-- the same put at the end of both
pub members-append : {X : Type 0} (xs ys zs : List X) → HaveSameMembers xs ys → HaveSameMembers (xs ++ zs) (ys ++ zs)
members-append {X} xs ys zs h p = (appended_one xs ys zs h p, appended_one ys xs zs (λ q. ((h q).1, (h q).0)) p)

-- a row that stands there already
pub members-repeated : {X : Type 0} (xs ys : List X) (q : X) → HaveSameMembers xs ys → SomeOf (λ x. x ≡ q) xs → HaveSameMembers xs (ys ++ q ∷ [])
members-repeated {X} xs ys q h k p = (
  λ m. some_left (λ y. y ≡ p) ys (q ∷ []) ((h p).0 m),
  λ m. elim (some_cases (λ y. y ≡ p) ys (q ∷ []) m) [
    | inl a ↦ (h p).1 a
    | inr b ↦ elim b [ inl e ↦ some_map (λ x. x ≡ q) (λ x. x ≡ p) xs (λ x c. c ∙ e) k | inr n ↦ absurd n ]
  ],
)

pub some_moved : {X : Type 0} (P : X → Type 0) (xs ys : List X) → ((p : X) → SomeOf (λ x. x ≡ p) xs → SomeOf (λ y. y ≡ p) ys) → SomeOf P xs → SomeOf P ys
some_moved P [] ys h k = absurd k
some_moved P (x ∷ xs) ys h k = elim k [
  | inl a ↦ some_map (λ y. y ≡ x) P ys (λ y e. subst P (sym e) a) (h x (inl refl))
  | inr b ↦ some_moved P xs ys (λ p m. h p (inr m)) b
]

pub rows_to : (P : List ℕ × ℕ → Type 0) (xs ys : List (List ℕ × ℕ)) → HaveSameMembers xs ys → SomeOf P xs → SomeOf P ys
rows_to P xs ys k m = some_moved P xs ys (λ p. (k p).0) m

pub rows_back : (P : List ℕ × ℕ → Type 0) (xs ys : List (List ℕ × ℕ)) → HaveSameMembers xs ys → SomeOf P ys → SomeOf P xs
rows_back P xs ys k m = some_moved P ys xs (λ p. (k p).1) m
