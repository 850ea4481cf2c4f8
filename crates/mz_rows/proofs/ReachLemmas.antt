-- A dependency that isn't cyclic reaches fewer articles.
use Rattle.std.proofs.Common.{◌≡◌, ◌<◌, ◌≤◌, ◌⊎◌, inl, inr, ℕ, suc, Bool, true, false, List, [], ◌∷◌, length, refl, sym, ap, ◌∙◌, arith, subst}
use Rattle.std.specs.Prelude.{Option, Some, None, slice_index_or, Contains}
use Rattle.mz_base.specs.declared.name.Name.{Name}
use Rattle.mz_axioms.proofs.AddedLemmas.{here, there, first_or_later}
use Rattle.mz_corpus.specs.Article.{Article, is_cyclic}
use Rattle.mz_corpus.specs.Corpus.{Corpus, IsAscending, link_of, links_of, DependsOn, directly, by_another, IsCorpus}
use Rattle.mz_corpus.proofs.OrderLemmas.{Contains-map}
use Rattle.mz_corpus.specs.Names.{is_among}
use Rattle.mz_corpus.proofs.AscendingLemmas.{among-Contains}
use Rattle.mz_turns.specs.Row.{Waiting}
use Rattle.mz_turns.specs.Dependencies.{start_of, start_row}
use Rattle.mz_turns.proofs.NameLemmas.{in_none}

-- what is known of the articles that each depends on
pub record AreReached (c : List Article) : Type 0 where
  pub ascending : (a : Article) → Contains c a → IsAscending a.reach
  pub depends : (a : Article) (n : Name) → Contains c a → Contains a.reach n → DependsOn (links_of c) a.direct n
  pub all : (a : Article) (n : Name) → Contains c a → DependsOn (links_of c) a.direct n → Contains a.reach n

pub reached_of : (k : Corpus) → IsCorpus k → AreReached k.articles
reached_of k corpus = record {
  ascending = λ a at. (corpus.each a at).reach.ascending;
  depends = λ a n at has. (corpus.each a at).reach.depends n has;
  all = λ a n at has. (corpus.each a at).reach.all n has;
}

-- names in their order
later_above : (x : Name) (xs : List Name) (n : Name) → IsAscending (x ∷ xs) → Contains xs n → x.number < n.number
later_above x xs n o h =
    let lt : x.number < (slice_index_or xs h.0 n).number = o 0 (suc h.0) n (omega arith) (omega (arith, h.1)) in
    subst (λ m. x.number < m.number) h.2 lt

later_ascending : (x : Name) (xs : List Name) → IsAscending (x ∷ xs) → IsAscending xs
later_ascending x xs o = λ i j d lt within. o (suc i) (suc j) d (omega (arith, lt)) (omega (arith, within))

not_above_itself : (m n : Name) → m ≡ n → m.number < n.number → ⊥
not_above_itself m n e lt = let same : m.number ≡ n.number = ap (λ x. x.number) e in omega (arith, same, lt)

abbrev AreAmong : List Name → List Name → Type 0
AreAmong xs ys = (n : Name) → Contains xs n → Contains ys n

-- the first of the one is the first of the other: the later ones are among the later ones
later_among_if : (x y : Name) (xs ys : List Name) (n : Name) → x ≡ y → IsAscending (x ∷ xs) → Contains xs n → (n ≡ y) ⊎ Contains ys n → Contains ys n
later_among_if x y xs ys n e o h (inl p) = absurd (not_above_itself x n (e ∙ sym p) (later_above x xs n o h))
later_among_if x y xs ys n e o h (inr k) = k

later_among : (x y : Name) (xs ys : List Name) → x ≡ y → IsAscending (x ∷ xs) → AreAmong (x ∷ xs) (y ∷ ys) → AreAmong xs ys
later_among x y xs ys e o among = λ n h. later_among_if x y xs ys n e o h (first_or_later y n ys (among n (there x n xs h)))

-- the first of the one is a later one of the other: all are among the later ones
all_later_two : (x y : Name) (xs ys : List Name) (n : Name) → IsAscending (x ∷ xs) → y.number < x.number → (n ≡ x) ⊎ Contains xs n → n ≡ y → ⊥
all_later_two x y xs ys n o lt (inl p) e = not_above_itself y x (sym e ∙ p) lt
all_later_two x y xs ys n o lt (inr h) e =
    let above = later_above x xs n o h in
    let same : n.number ≡ y.number = ap (λ z. z.number) e in
    omega (arith, above, same, lt)

all_later_if : (x y : Name) (xs ys : List Name) (n : Name) → IsAscending (x ∷ xs) → y.number < x.number → Contains (x ∷ xs) n → (n ≡ y) ⊎ Contains ys n → Contains ys n
all_later_if x y xs ys n o lt h (inl p) = absurd (all_later_two x y xs ys n o lt (first_or_later x n xs h) p)
all_later_if x y xs ys n o lt h (inr k) = k

all_later : (x y : Name) (xs ys : List Name) → IsAscending (x ∷ xs) → IsAscending (y ∷ ys) → Contains ys x → AreAmong (x ∷ xs) (y ∷ ys) → AreAmong (x ∷ xs) ys
all_later x y xs ys ox oy has among = λ n h. all_later_if x y xs ys n ox (later_above y ys x oy has) h (first_or_later y n ys (among n h))

no_more_if : (x y : Name) (xs ys : List Name) → IsAscending (x ∷ xs) → IsAscending (y ∷ ys) → AreAmong (x ∷ xs) (y ∷ ys) → (AreAmong xs ys → length xs ≤ length ys) → (AreAmong (x ∷ xs) ys → length (x ∷ xs) ≤ length ys) → (x ≡ y) ⊎ Contains ys x → length (x ∷ xs) ≤ length (y ∷ ys)
no_more_if x y xs ys ox oy among one other (inl e) = let le = one (later_among x y xs ys e ox among) in omega (arith, le)
no_more_if x y xs ys ox oy among one other (inr h) = let le = other (all_later x y xs ys ox oy h among) in omega (arith, le)

-- names among others are no more than these
pub no_more : (ys xs : List Name) → IsAscending xs → IsAscending ys → AreAmong xs ys → length xs ≤ length ys
no_more ys [] ox oy among = omega arith
no_more [] (x ∷ xs) ox oy among = absurd (in_none x (among x (here x xs)))
no_more (y ∷ ys) (x ∷ xs) ox oy among =
    no_more_if x y xs ys ox oy among (λ a. no_more ys xs (later_ascending x xs ox) (later_ascending y ys oy) a) (λ a. no_more ys (x ∷ xs) ox (later_ascending y ys oy) a) (first_or_later y x ys (among x (here x xs)))

not_first : (x y z : Name) (xs ys : List Name) → z ≡ y → (Contains (x ∷ xs) z → ⊥) → (x ≡ y) ⊎ Contains ys x → Contains ys x
not_first x y z xs ys e free (inl p) = absurd (free (subst (λ n. Contains (x ∷ xs) n) (p ∙ sym e) (here x xs)))
not_first x y z xs ys e free (inr h) = h

fewer_if : (x y z : Name) (xs ys : List Name) → IsAscending (x ∷ xs) → IsAscending (y ∷ ys) → AreAmong (x ∷ xs) (y ∷ ys) → (Contains (x ∷ xs) z → ⊥) → Contains ys z → ((Contains xs z → ⊥) → AreAmong xs ys → length xs < length ys) → (AreAmong (x ∷ xs) ys → length (x ∷ xs) < length ys) → (x ≡ y) ⊎ Contains ys x → length (x ∷ xs) < length (y ∷ ys)
fewer_if x y z xs ys ox oy among free has one other (inl e) = let lt = one (λ h. free (there x z xs h)) (later_among x y xs ys e ox among) in omega (arith, lt)
fewer_if x y z xs ys ox oy among free has one other (inr h) = let lt = other (all_later x y xs ys ox oy h among) in omega (arith, lt)

fewer_by : (x y z : Name) (xs ys : List Name) → IsAscending (x ∷ xs) → IsAscending (y ∷ ys) → AreAmong (x ∷ xs) (y ∷ ys) → (Contains (x ∷ xs) z → ⊥) → (Contains ys z → (Contains xs z → ⊥) → AreAmong xs ys → length xs < length ys) → (Contains ys z → AreAmong (x ∷ xs) ys → length (x ∷ xs) < length ys) → (z ≡ y) ⊎ Contains ys z → length (x ∷ xs) < length (y ∷ ys)
fewer_by x y z xs ys ox oy among free one other (inl e) =
    let has = not_first x y z xs ys e free (first_or_later y x ys (among x (here x xs))) in
    let le = no_more ys (x ∷ xs) ox (later_ascending y ys oy) (all_later x y xs ys ox oy has among) in
    omega (arith, le)
fewer_by x y z xs ys ox oy among free one other (inr h) = fewer_if x y z xs ys ox oy among free h (one h) (other h) (first_or_later y x ys (among x (here x xs)))

-- and fewer, where one of these isn't among them
pub fewer : (ys xs : List Name) (z : Name) → IsAscending xs → IsAscending ys → AreAmong xs ys → (Contains xs z → ⊥) → Contains ys z → length xs < length ys
fewer [] xs z ox oy among free has = absurd (in_none z has)
fewer (y ∷ ys) [] z ox oy among free has = omega arith
fewer (y ∷ ys) (x ∷ xs) z ox oy among free has =
    fewer_by x y z xs ys ox oy among free
    (λ h f a. fewer ys xs z (later_ascending x xs ox) (later_ascending y ys oy) a f h)
    (λ h a. fewer ys (x ∷ xs) z ox (later_ascending y ys oy) a free h)
    (first_or_later y z ys has)

-- what a dependency depends on
through : (c : List Article) (a b : Article) (n : Name) → Contains c b → Contains a.direct b.name → DependsOn (links_of c) b.direct n → DependsOn (links_of c) a.direct n
through c a b n at has (directly m h) = by_another (link_of b) n (Contains-map link_of c b at) (directly b.name has) h
through c a b n at has (by_another l m within p h) = by_another l n within (through c a b l.name at has p) h

waits_acyclic : (o : Option (List ℕ)) (b : Bool) → start_of o b ≡ Waiting → b ≡ false
waits_acyclic None b h = absurd cc
waits_acyclic (Some t) true h = absurd cc
waits_acyclic (Some t) false h = refl

different : (b : Bool) → b ≡ false → b ≡ true → ⊥
different b p q = cc

-- a direct dependency that waits at the start reaches fewer articles
pub reaches_fewer : (c : List Article) → AreReached c → (a b : Article) → Contains c a → Contains c b → Contains a.direct b.name → start_row b ≡ Waiting → length b.reach < length a.reach
reaches_fewer c is a b at bt has waits =
    fewer a.reach b.reach b.name (is.ascending b bt) (is.ascending a at)
    (λ n h. is.all a n at (through c a b n bt has (is.depends b n bt h)))
    (λ h. different (is_among b.reach b.name) (waits_acyclic b.text (is_cyclic b) waits) (among-Contains b.reach b.name h))
    (is.all a b.name at (directly b.name has))
