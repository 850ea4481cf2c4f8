-- Which articles depend directly on a name.
use Rattle.std.proofs.Common.{◌≡◌, ℕ, ◌+◌, ◌<◌, ◌≤◌, ◌⊎◌, false, List, [], ◌∷◌, ◌++◌, Some, length, get_or, take, refl, sym, ap, subst, ◌∙◌, arith, inl, inr, length-append}
use Rattle.std.specs.Prelude.{Contains, slice_get}
use Rattle.std.specs.declared.cmp.Ordering.{Ordering}
use Rattle.std.specs.declared.cmp.Ordering.TheVariants.{Less, Equal, Greater}
use Rattle.std.specs.Ordering.{nat_cmp, is_eq}
use Rattle.std.proofs.lemmas.Bool.{cases_eq}
use Rattle.std.proofs.lemmas.List.{take_more, take_all}
use Rattle.std.proofs.lemmas.List.Elements.{Contains-append_left, Contains-push, Contains-push_cases}
use Rattle.mz_base.specs.declared.name.Name.{Name}
use Rattle.mz_corpus.specs.Article.{Article}
use Rattle.mz_corpus.specs.Dependents.{RowsByName, HasAdded, AreDependents}
use Rattle.mz_corpus.proofs.AscendingLemmas.{compared, IsTrichotomy}
use Rattle.mz_corpus.proofs.ContainsLemmas.{Contains-none, Contains-cases}
use Rattle.mz_corpus.proofs.SliceLemmas.{slice_get_push}

-- one row for one name

record IsAddedAt (old new : RowsByName) (number row : ℕ) : Type 0 where
  here : new number ≡ old number ++ row ∷ []
  others : (q : ℕ) → (q ≡ number → ⊥) → new q ≡ old q

kept_at : (old new : RowsByName) (number row q r : ℕ) → IsAddedAt old new number row → Contains (old q) r → Contains (new q) r
kept_at old new number row q r h k =
    elim (cases_eq q number) [
      | inl e ↦ subst (λ p. Contains (new p) r) (sym e) (subst (λ rs. Contains rs r) (sym h.here) (Contains-append_left (old number) (row ∷ []) r (subst (λ p. Contains (old p) r) e k)))
      | inr other ↦ subst (λ rs. Contains rs r) (sym (h.others q other)) k
    ]

only_at : (old new : RowsByName) (number row q r : ℕ) → IsAddedAt old new number row → Contains (new q) r → Contains (old q) r ⊎ (r ≡ row)
only_at old new number row q r h k =
    elim (cases_eq q number) [
      | inl e ↦ elim (Contains-push_cases (old number) row r (subst (λ rs. Contains rs r) h.here (subst (λ p. Contains (new p) r) e k))) [
        | inl j ↦ inl (subst (λ p. Contains (old p) r) (sym e) j)
        | inr same ↦ inr (sym same)
      ]
      | inr other ↦ inl (subst (λ rs. Contains rs r) (h.others q other) k)
    ]

added_at : (old new : RowsByName) (name : Name) (row : ℕ) (n : Name) → IsAddedAt old new name.number row → Contains (name ∷ []) n → Contains (new n.number) row
added_at old new name row n h k =
    elim (Contains-cases name [] n k) [
      | inl e ↦ subst (λ m. Contains (new m.number) row) e (subst (λ rs. Contains rs row) (sym h.here) (Contains-push (old name.number) row))
      | inr j ↦ absurd (Contains-none n j)
    ]

HasAdded-at : (old mid new : RowsByName) (name : Name) (row : ℕ) (found rows : List ℕ) → found ≡ old name.number → ((q : ℕ) → (q ≡ name.number → ⊥) → mid q ≡ old q) → rows ≡ found ++ row ∷ []
    → new name.number ≡ rows → ((q : ℕ) → (q ≡ name.number → ⊥) → new q ≡ mid q) → HasAdded old new (name ∷ []) row
HasAdded-at old mid new name row found rows ef others er en more =
    let h : IsAddedAt old new name.number row = record { here = en ∙ er ∙ ap (λ rs. rs ++ row ∷ []) ef; others = λ q other. more q other ∙ others q other } in
    record {
      kept = λ q r k. kept_at old new name.number row q r h k;
      added = λ n k. added_at old new name row n h k;
      only = λ q r k. only_at old new name.number row q r h k;
    }

pub HasAdded-one : (old mid new : RowsByName) (name : Name) (row i j : ℕ) (found rows : List ℕ) → i ≡ name.number → j ≡ name.number → found ≡ old i → ((q : ℕ) → (q ≡ i → ⊥) → mid q ≡ old q) → rows ≡ found ++ row ∷ []
    → new j ≡ rows → ((q : ℕ) → (q ≡ j → ⊥) → new q ≡ mid q) → HasAdded old new (name ∷ []) row
HasAdded-one old mid new name row i j found rows ei ej ef others er en more =
    HasAdded-at old mid new name row found rows (ef ∙ ap old ei) (λ q other. others q (λ e. other (e ∙ ei))) er (ap new (sym ej) ∙ en) (λ q other. more q (λ e. other (e ∙ ej)))

-- a row for some names

pub HasAdded-none : (old : RowsByName) (row : ℕ) → HasAdded old old [] row
HasAdded-none old row = record { kept = λ q r k. k; added = λ n k. absurd (Contains-none n k); only = λ q r k. inl k }

added_more : (mid new : RowsByName) (ns : List Name) (n m : Name) (row : ℕ) → ((p : Name) → Contains ns p → Contains (mid p.number) row) → HasAdded mid new (n ∷ []) row → Contains (ns ++ n ∷ []) m → Contains (new m.number) row
added_more mid new ns n m row h k held =
    elim (Contains-push_cases ns n m held) [
      | inl j ↦ k.kept m.number row (h m j)
      | inr e ↦ k.added m (subst (λ p. Contains (n ∷ []) p) e (Contains-push [] n))
    ]

HasAdded-more : (old mid new : RowsByName) (ns : List Name) (n : Name) (row : ℕ) → HasAdded old mid ns row → HasAdded mid new (n ∷ []) row → HasAdded old new (ns ++ n ∷ []) row
HasAdded-more old mid new ns n row h k = record {
  kept = λ q r j. k.kept q r (h.kept q r j);
  added = λ m held. added_more mid new ns n m row h.added k held;
  only = λ q r j. elim (k.only q r j) [ inl i ↦ h.only q r i | inr e ↦ inr e ];
}

pub HasAdded-turn : (old mid new : RowsByName) (ns : List Name) (i : ℕ) (n : Name) (row : ℕ) → i < length ns → n ≡ get_or ns i n → HasAdded old mid (take i ns) row → HasAdded mid new (n ∷ []) row → HasAdded old new (take (i + 1) ns) row
HasAdded-turn old mid new ns i n row lt at h k =
    let more : take (i + 1) ns ≡ take i ns ++ n ∷ [] = take_more ns i n lt ∙ ap (λ m. take i ns ++ m ∷ []) (sym at) in
    subst (λ ms. HasAdded old new ms row) (sym more) (HasAdded-more old mid new (take i ns) n row h k)

pub HasAdded-whole : (old new : RowsByName) (ns : List Name) (i row : ℕ) → length ns ≤ i → HasAdded old new (take i ns) row → HasAdded old new ns row
HasAdded-whole old new ns i row past h = subst (λ ms. HasAdded old new ms row) (take_all i ns past) h

-- the rows of some articles

pub AreDependents-none : (rows : RowsByName) → ((q : ℕ) → rows q ≡ []) → AreDependents [] rows
AreDependents-none rows e = record { each = λ r a n at held. cc; within = λ q r held. absurd (Contains-none r (subst (λ rs. Contains rs r) (e q) held)) }

each_more : (c : List Article) (a : Article) (old new : RowsByName) → AreDependents c old → HasAdded old new a.dependencies (length c) → (r : ℕ) (b : Article) (n : Name) → slice_get (c ++ a ∷ []) r ≡ Some b → Contains b.dependencies n → Contains (new n.number) r
each_more c a old new h k r b n at held =
    elim (slice_get_push c a r b at) [
      | inl e ↦ k.kept n.number r (h.each r b n e held)
      | inr e ↦ subst (λ q. Contains (new n.number) q) (sym e.0) (k.added n (subst (λ x. Contains x.dependencies n) (sym e.1) held))
    ]

within_more : (c : List Article) (a : Article) (old new : RowsByName) → AreDependents c old → HasAdded old new a.dependencies (length c) → (q r : ℕ) → Contains (new q) r → r < length (c ++ a ∷ [])
within_more c a old new h k q r held =
    let l = length-append c (a ∷ []) in
    elim (k.only q r held) [ inl j ↦ (let lt = h.within q r j in omega arith) | inr e ↦ omega arith ]

AreDependents-more : (c : List Article) (a : Article) (old new : RowsByName) → AreDependents c old → HasAdded old new a.dependencies (length c) → AreDependents (c ++ a ∷ []) new
AreDependents-more c a old new h k = record { each = each_more c a old new h k; within = within_more c a old new h k }

pub AreDependents-turn : (c : List Article) (i : ℕ) (a : Article) (old new : RowsByName) → i < length c → a ≡ get_or c i a → length (take i c) ≡ i → AreDependents (take i c) old → HasAdded old new a.dependencies i → AreDependents (take (i + 1) c) new
AreDependents-turn c i a old new lt at len h k =
    let more : take (i + 1) c ≡ take i c ++ a ∷ [] = take_more c i a lt ∙ ap (λ b. take i c ++ b ∷ []) (sym at) in
    subst (λ d. AreDependents d new) (sym more) (AreDependents-more (take i c) a old new h (subst (λ j. HasAdded old new a.dependencies j) (sym len) k))

-- rows up to a number

pub rows_more : (items : List ℕ) (n : ℕ) → ((r : ℕ) → r < n → Contains items r) → (r : ℕ) → r < n + 1 → Contains (items ++ n ∷ []) r
rows_more items n h r lt =
    elim (cases_eq r n) [
      | inl e ↦ subst (λ q. Contains (items ++ n ∷ []) q) (sym e) (Contains-push items n)
      | inr other ↦ Contains-append_left items (n ∷ []) r (h r (omega arith))
    ]

pub rows_within : (items : List ℕ) (n : ℕ) → ((r : ℕ) → Contains items r → r < n) → (r : ℕ) → Contains (items ++ n ∷ []) r → r < n + 1
rows_within items n h r held = elim (Contains-push_cases items n r held) [ inl k ↦ (let lt = h r k in omega arith) | inr e ↦ omega arith ]

-- rows of a map

pub apart_by : (a b : ℕ) → (b ≡ a → ⊥) → is_eq (nat_cmp a b) ≡ false
apart_by a b other = let c = compared a b in ap is_eq c.is ∙ apart_as a b c.answer c.holds other
  where
    apart_as : (a b : ℕ) (o : Ordering) → IsTrichotomy o a b → (b ≡ a → ⊥) → is_eq o ≡ false
    apart_as a b Less lt other = refl
    apart_as a b Equal same other = absurd (other (sym same))
    apart_as a b Greater gt other = refl
