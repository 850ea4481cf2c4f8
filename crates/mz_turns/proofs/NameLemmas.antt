-- Names in lists, and the rows of named articles.
use Rattle.std.proofs.Common.{◌≡◌, ◌<◌, ◌⊎◌, inl, inr, ℕ, zero, suc, Bool, true, false, List, [], ◌∷◌, map, length, refl, sym, ap, ◌∙◌, arith}
use Rattle.std.specs.Prelude.{◌==◌, ◌||◌, Some, slice_get, slice_index_or, AllPairs, Contains}
use Rattle.std.proofs.lemmas.Bool.Decides.{nat_tests}
use Rattle.std.proofs.lemmas.List.{length-map}
use Rattle.std.proofs.lemmas.Option.{same_Some, none-some, slice_get_within, get_or_from_slice_get, slice_get-get_or}
use Rattle.mz_base.specs.Name.{is_built_in}
use Rattle.mz_base.specs.declared.name.Name.{Name}
use Rattle.mz_base.proofs.NameEqual.{Name-equal}
use Rattle.mz_axioms.proofs.AddedLemmas.{here, there, first_or_later}
use Rattle.mz_corpus.specs.Article.{Article}
use Rattle.mz_corpus.specs.Corpus.{Corpus, names_of, links_of, DependsOn, IsCorpus}
use Rattle.mz_turns.specs.Dependencies.{next_place, place_of}

pub equal_numbers : (m n : ℕ) → (m == n) ≡ true → m ≡ n
equal_numbers m n h = grind (arith, nat_tests)

pub numbers_equal : (m n : ℕ) → m ≡ n → (m == n) ≡ true
numbers_equal m n h = grind (arith, nat_tests)

pub or_left : (a b : Bool) → a ≡ true → (a || b) ≡ true
or_left true b h = refl
or_left false b h = absurd cc

pub or_right : (a b : Bool) → b ≡ true → (a || b) ≡ true
or_right true b h = refl
or_right false b h = h

pub or_cases : (a b : Bool) → (a || b) ≡ true → (a ≡ true) ⊎ (b ≡ true)
or_cases true b h = inl refl
or_cases false b h = inr h

pub in_none : {X : Type 0} (x : X) → Contains [] x → ⊥
in_none x h = let lt : h.0 < 0 = h.1 in omega arith

-- articles and their rows
-- the list has an article of the name
abbrev pub HasArticle : List Article → Name → Type 0
HasArticle c n = (a : Article) × Contains c a × (a.name ≡ n)

pub record AreArticles (c : List Article) : Type 0 where
  pub distinct : (r q : ℕ) (a b : Article) → slice_get c r ≡ Some a → slice_get c q ≡ Some b → a.name ≡ b.name → r ≡ q
  pub own : (r : ℕ) (a : Article) → slice_get c r ≡ Some a → is_built_in a.name.number ≡ false
  pub known : (a : Article) (n : Name) → Contains c a → Contains a.direct n → HasArticle c n
  pub reached : (a : Article) (n : Name) → Contains c a → Contains a.reach n → DependsOn (links_of c) a.direct n

abbrev pub IsImageIn : {X : Type 0} → (Article → X) → List Article → X → Type 0
IsImageIn f c x = (a : Article) × Contains c a × (f a ≡ x)

image_if : {X : Type 0} (f : Article → X) (a : Article) (c : List Article) (x : X) → (Contains (map f c) x → IsImageIn f c x) → (x ≡ f a) ⊎ Contains (map f c) x → IsImageIn f (a ∷ c) x
image_if f a c x k (inl e) = (a, here a c, sym e)
image_if f a c x k (inr h) = let b = k h in (b.0, there a b.0 c b.1, b.2)

pub from_map : {X : Type 0} (f : Article → X) (c : List Article) (x : X) → Contains (map f c) x → IsImageIn f c x
from_map f [] x h = absurd (in_none x h)
from_map f (a ∷ c) x h = image_if f a c x (from_map f c x) (first_or_later (f a) x (map f c) h)

pub contained : (c : List Article) (r : ℕ) (a : Article) → slice_get c r ≡ Some a → Contains c a
contained c r a h = (r, slice_get_within c r a h, get_or_from_slice_get c r a a h)

pub article_at : (c : List Article) (a : Article) → Contains c a → (r : ℕ) × (slice_get c r ≡ Some a)
article_at c a h = (h.0, slice_get-get_or c h.0 a h.1 ∙ ap (λ x. Some x) h.2)

abbrev pub IsFound : List Article → Name → Type 0
IsFound c n = (b : Article) × (slice_get c (place_of c n) ≡ Some b) × (b.name ≡ n)

different : {b : Bool} → b ≡ false → b ≡ true → ⊥
different p q = cc

found_if : (t : Bool) (x : Article) (c : List Article) (n : Name) → (x.name.number == n.number) ≡ t → (a : Article) → a.name ≡ n → (a ≡ x) ⊎ Contains c a → (Contains c a → IsFound c n) → (b : Article) × (slice_get (x ∷ c) (next_place t (place_of c n)) ≡ Some b) × (b.name ≡ n)
found_if true x c n e a named h k = (x, refl, Name-equal x.name n (equal_numbers x.name.number n.number e))
found_if false x c n e a named (inl same) k =
    let yes : (x.name.number == n.number) ≡ true = numbers_equal x.name.number n.number (ap (λ y. y.number) (ap (λ y. y.name) (sym same) ∙ named)) in
    absurd (different e yes)
found_if false x c n e a named (inr h) k = k h

-- an article that there is stands at its row
pub found : (c : List Article) (n : Name) → HasArticle c n → IsFound c n
found [] n h = absurd (in_none h.0 h.1)
found (x ∷ c) n h = found_if (x.name.number == n.number) x c n refl h.0 h.2 (first_or_later x h.0 c h.1) (λ later. found c n (h.0, later, h.2))

placed_if : (t : Bool) (x : Article) (c : List Article) (n : Name) → (x.name.number == n.number) ≡ t → (place_of c n < length c → IsFound c n) → next_place t (place_of c n) < length (x ∷ c) → (b : Article) × (slice_get (x ∷ c) (next_place t (place_of c n)) ≡ Some b) × (b.name ≡ n)
placed_if true x c n e k lt = (x, refl, Name-equal x.name n (equal_numbers x.name.number n.number e))
placed_if false x c n e k lt = k (omega (arith, lt))

-- a row that a name has is that of its article
pub placed : (c : List Article) (n : Name) → place_of c n < length c → IsFound c n
placed [] n lt = absurd (omega arith)
placed (x ∷ c) n lt = placed_if (x.name.number == n.number) x c n refl (placed c n) lt

pub place_is : (c : List Article) → AreArticles c → (r : ℕ) (a : Article) → slice_get c r ≡ Some a → place_of c a.name ≡ r
place_is c corpus r a h =
    let f = found c a.name (a, contained c r a h, refl) in
    corpus.distinct (place_of c a.name) r f.0 a f.1 h f.2

pub same_place : (c : List Article) → AreArticles c → (r : ℕ) (a : Article) (n : Name) → slice_get c r ≡ Some a → a.name ≡ n → place_of c n ≡ r
same_place c corpus r a n h named = ap (place_of c) (sym named) ∙ place_is c corpus r a h

-- the articles of a corpus
name_at : (c : List Article) (r : ℕ) (a : Article) (d : Name) → slice_get c r ≡ Some a → slice_index_or (names_of c) r d ≡ a.name
name_at [] r a d h = absurd (none-some a h)
name_at (b ∷ c) zero a d h = ap (λ x. x.name) (same_Some b a h)
name_at (b ∷ c) (suc r) a d h = name_at c r a d h

distinct_if : (c : List Article) (r q : ℕ) (a b : Article) → AllPairs (λ m n. m ≡ n → ⊥) (names_of c) → slice_get c r ≡ Some a → slice_get c q ≡ Some b → r < q → a.name ≡ b.name → ⊥
distinct_if c r q a b apart h k lt same =
    let within : q < length (names_of c) = omega (arith, slice_get_within c q b k, length-map c (λ x. x.name)) in
    apart r q a.name lt within (name_at c r a a.name h ∙ (same ∙ sym (name_at c q b a.name k)))

distinct_by : (c : List Article) (r q : ℕ) (a b : Article) → AllPairs (λ m n. m ≡ n → ⊥) (names_of c) → slice_get c r ≡ Some a → slice_get c q ≡ Some b → a.name ≡ b.name → (r ≡ q) ⊎ (r < q) ⊎ (q < r) → r ≡ q
distinct_by c r q a b apart h k same (inl e) = e
distinct_by c r q a b apart h k same (inr (inl lt)) = absurd (distinct_if c r q a b apart h k lt same)
distinct_by c r q a b apart h k same (inr (inr lt)) = absurd (distinct_if c q r b a apart k h lt (sym same))

compared_suc : (r q : ℕ) → (r ≡ q) ⊎ (r < q) ⊎ (q < r) → (suc r ≡ suc q) ⊎ (suc r < suc q) ⊎ (suc q < suc r)
compared_suc r q (inl e) = inl (ap suc e)
compared_suc r q (inr (inl lt)) = inr (inl (omega arith))
compared_suc r q (inr (inr lt)) = inr (inr (omega arith))

compared : (r q : ℕ) → (r ≡ q) ⊎ (r < q) ⊎ (q < r)
compared zero zero = inl refl
compared zero (suc q) = inr (inl (omega arith))
compared (suc r) zero = inr (inr (omega arith))
compared (suc r) (suc q) = compared_suc r q (compared r q)

pub articles_of : (k : Corpus) → IsCorpus k → AreArticles k.articles
articles_of k corpus = record {
  distinct = λ r q a b h i same. distinct_by k.articles r q a b corpus.distinct h i same (compared r q);
  own = λ r a h. (corpus.each a (contained k.articles r a h)).not_built_in;
  known = λ a n at has. from_map (λ x. x.name) k.articles n ((corpus.each a at).known n has);
  reached = λ a n at has. (corpus.each a at).reach.depends n has;
}
