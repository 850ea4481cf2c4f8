-- The first difference of two lists.
use Rattle.std.proofs.Common.{◌≡◌, ◌<◌, ℕ, suc, List, [], ◌∷◌, map, length, refl, ap, sym, ◌∙◌, subst, arith, Bool, true, false}
use Rattle.std.specs.Prelude.{◌==◌, if◌then◌else◌, Option, Some, None, is_some, slice_get, MatchOption, All, AllPairs, Contains}
use Rattle.std.specs.List.{filter}
use Rattle.std.proofs.lemmas.Option.{same_Some}
use Rattle.mz_base.specs.NamedText.{NamedText}
use Rattle.mz_base.specs.declared.name.Name.{Name}
use Rattle.mz_base.proofs.NameEqual.{Name-equal}
use Rattle.mz_core.specs.declared.outcome.Export.{Export}
use Rattle.mz_axioms.specs.Library.{AreInOrder}
use Rattle.mz_axioms.proofs.AddedLemmas.{here, there}
use Rattle.mz_corpus.specs.Article.{Article}
use Rattle.mz_corpus.specs.Corpus.{Corpus, IsAscending, IsCorpus}
use Rattle.mz_turns.specs.Row.{Row}
use Rattle.mz_turns.specs.Library.{library_of, is_used_by, environment}
use Rattle.mz_turns.proofs.NameLemmas.{contained}
use Rattle.mz_turns.proofs.ExportLemmas.{filter_in_order}
use Rattle.std.proofs.lemmas.Bool.Decides.{nat_tests}
use Rattle.mz_desk.specs.Difference.{value_at, number_of_text, text_of, AreTexts, number_of_export, itself, IsFirstDifference, AreAbove, AreRising, HaveValues}

other_number : (m n : ℕ) → n < m → (m == n) ≡ false
other_number m n h = grind (arith, nat_tests)

equal_number : (m n : ℕ) → (m == n) ≡ true → m ≡ n
equal_number m n h = grind (arith, nat_tests)

same_number : (m n : ℕ) → m ≡ n → (m == n) ≡ true
same_number m n h = grind (arith, nat_tests)

pub above_more : {X : Type 0} (key : X → ℕ) (m n : ℕ) (xs : List X) → m < n → AreAbove key n xs → AreAbove key m xs
above_more key m n [] lt h = tt
above_more key m n (x ∷ xs) lt h = (omega (arith, lt, h.0), above_more key m n xs lt h.1)

value_at-passed : {X V : Type 0} (key : X → ℕ) (value : X → Option V) (x : X) (xs : List X) (n : ℕ) → n < key x → value_at key value (x ∷ xs) n ≡ value_at key value xs n
value_at-passed key value x xs n lt = ap (λ b. if b then value x else value_at key value xs n) (other_number (key x) n lt)

value_at-found : {X V : Type 0} (key : X → ℕ) (value : X → Option V) (x : X) (xs : List X) (n : ℕ) → key x ≡ n → value_at key value (x ∷ xs) n ≡ value x
value_at-found key value x xs n e = ap (λ b. if b then value x else value_at key value xs n) (same_number (key x) n e)

-- no element has the number where all are above it
pub value_below : {X V : Type 0} (key : X → ℕ) (value : X → Option V) (xs : List X) (n : ℕ) → AreAbove key n xs → value_at key value xs n ≡ None
value_below key value [] n h = refl
value_below key value (x ∷ xs) n h = value_at-passed key value x xs n h.0 ∙ value_below key value xs n h.1

some_is_not_none : {V : Type 0} (o : Option V) → is_some o ≡ true → o ≡ None → ⊥
some_is_not_none None h e = cc
some_is_not_none (Some v) h e = cc

-- the first list has the lower number
pub lower_first : {X V : Type 0} (key : X → ℕ) (value : X → Option V) (x : X) (xs ys : List X) → AreRising key (x ∷ xs) → HaveValues value (x ∷ xs) → AreAbove key (key x) ys → IsFirstDifference (value_at key value (x ∷ xs)) (value_at key value ys) (key x)
lower_first key value x xs ys rising some above = record {
  differs = λ e. some_is_not_none (value x) some.0 (sym (value_at-found key value x xs (key x) refl) ∙ (e ∙ value_below key value ys (key x) above));
  before = λ m lt. value_below key value (x ∷ xs) m (lt, above_more key m (key x) xs lt rising.0) ∙ sym (value_below key value ys m (above_more key m (key x) ys lt above));
}

pub swapped : {V : Type 0} (f g : ℕ → Option V) (n : ℕ) → IsFirstDifference f g n → IsFirstDifference g f n
swapped f g n h = record { differs = λ e. h.differs (sym e); before = λ m lt. sym (h.before m lt) }

-- the first elements have one number and different values
pub values_first : {X V : Type 0} (key : X → ℕ) (value : X → Option V) (x y : X) (xs ys : List X) → AreRising key (x ∷ xs) → AreRising key (y ∷ ys) → key x ≡ key y → (value x ≡ value y → ⊥) → IsFirstDifference (value_at key value (x ∷ xs)) (value_at key value (y ∷ ys)) (key x)
values_first key value x y xs ys rising other same differ = record {
  differs = λ e. differ (sym (value_at-found key value x xs (key x) refl) ∙ (e ∙ value_at-found key value y ys (key x) (sym same)));
  before = λ m lt.
      value_below key value (x ∷ xs) m (lt, above_more key m (key x) xs lt rising.0)
      ∙ sym (value_below key value (y ∷ ys) m (omega (arith, lt, same), above_more key m (key y) ys (omega (arith, lt, same)) other.0));
}

-- the first elements are the same
rest_at : {X V : Type 0} (key : X → ℕ) (value : X → Option V) (x y : X) (xs ys : List X) (m : ℕ) → x ≡ y → value_at key value xs m ≡ value_at key value ys m → value_at key value (x ∷ xs) m ≡ value_at key value (y ∷ ys) m
rest_at key value x y xs ys m same e = λ i. if key (same i) == m then value (same i) else e i

rest_differs : {X V : Type 0} (key : X → ℕ) (value : X → Option V) (x y : X) (xs ys : List X) (n : ℕ) → AreRising key (x ∷ xs) → AreRising key (y ∷ ys) → x ≡ y → (value_at key value xs n ≡ value_at key value ys n → ⊥) → (b : Bool) → (key x == n) ≡ b → value_at key value (x ∷ xs) n ≡ value_at key value (y ∷ ys) n → ⊥
rest_differs key value x y xs ys n rising other same differ true t e =
    let number : key x ≡ n = equal_number (key x) n t in
    let above : AreAbove key n xs = subst (λ k. AreAbove key k xs) number rising.0 in
    let above2 : AreAbove key n ys = subst (λ k. AreAbove key k ys) (ap key (sym same) ∙ number) other.0 in
    differ (value_below key value xs n above ∙ sym (value_below key value ys n above2))
rest_differs key value x y xs ys n rising other same differ false t e =
    let left : value_at key value (x ∷ xs) n ≡ value_at key value xs n = ap (λ b. if b then value x else value_at key value xs n) t in
    let right : value_at key value (y ∷ ys) n ≡ value_at key value ys n = ap (λ b. if b then value y else value_at key value ys n) (ap (λ z. key z == n) (sym same) ∙ t) in
    differ (sym left ∙ (e ∙ right))

pub rest_first : {X V : Type 0} (key : X → ℕ) (value : X → Option V) (x y : X) (xs ys : List X) (n : ℕ) → AreRising key (x ∷ xs) → AreRising key (y ∷ ys) → x ≡ y → IsFirstDifference (value_at key value xs) (value_at key value ys) n → IsFirstDifference (value_at key value (x ∷ xs)) (value_at key value (y ∷ ys)) n
rest_first key value x y xs ys n rising other same h = record {
  differs = λ e. rest_differs key value x y xs ys n rising other same h.differs (key x == n) refl e;
  before = λ m lt. rest_at key value x y xs ys m same (h.before m lt);
}

-- the same over lists as they are taken apart
at : {X V : Type 0} (key : X → ℕ) (value : X → Option V) (xs xs2 ys ys2 : List X) (m n : ℕ) → xs ≡ xs2 → ys ≡ ys2 → m ≡ n → IsFirstDifference (value_at key value xs2) (value_at key value ys2) m → IsFirstDifference (value_at key value xs) (value_at key value ys) n
at key value xs xs2 ys ys2 m n ex ey en h =
    subst (λ z. IsFirstDifference (value_at key value z) (value_at key value ys) n) (sym ex)
    (subst (λ z. IsFirstDifference (value_at key value xs2) (value_at key value z) n) (sym ey)
    (subst (λ k. IsFirstDifference (value_at key value xs2) (value_at key value ys2) k) en h))

pub only_second : {X V : Type 0} (key : X → ℕ) (value : X → Option V) (xs ys : List X) (y : X) (rest : List X) (n : ℕ) → xs ≡ [] → ys ≡ y ∷ rest → AreRising key ys → HaveValues value ys → key y ≡ n → IsFirstDifference (value_at key value xs) (value_at key value ys) n
only_second key value xs ys y rest n ex ey rising some en =
    at key value xs [] ys (y ∷ rest) (key y) n ex ey en
    (swapped (value_at key value (y ∷ rest)) (value_at key value []) (key y) (lower_first key value y rest [] (subst (AreRising key) ey rising) (subst (HaveValues value) ey some) tt))

pub only_first : {X V : Type 0} (key : X → ℕ) (value : X → Option V) (xs ys : List X) (x : X) (rest : List X) (n : ℕ) → xs ≡ x ∷ rest → ys ≡ [] → AreRising key xs → HaveValues value xs → key x ≡ n → IsFirstDifference (value_at key value xs) (value_at key value ys) n
only_first key value xs ys x rest n ex ey rising some en =
    at key value xs (x ∷ rest) ys [] (key x) n ex ey en
    (lower_first key value x rest [] (subst (AreRising key) ex rising) (subst (HaveValues value) ex some) tt)

pub first_lower : {X V : Type 0} (key : X → ℕ) (value : X → Option V) (xs ys : List X) (x y : X) (rest more : List X) (n : ℕ) → xs ≡ x ∷ rest → ys ≡ y ∷ more → AreRising key xs → AreRising key ys → HaveValues value xs → key x < key y → key x ≡ n → IsFirstDifference (value_at key value xs) (value_at key value ys) n
first_lower key value xs ys x y rest more n ex ey rising other some lt en =
    let o = subst (AreRising key) ey other in
    at key value xs (x ∷ rest) ys (y ∷ more) (key x) n ex ey en
    (lower_first key value x rest (y ∷ more) (subst (AreRising key) ex rising) (subst (HaveValues value) ex some) (lt, above_more key (key x) (key y) more lt o.0))

pub second_lower : {X V : Type 0} (key : X → ℕ) (value : X → Option V) (xs ys : List X) (x y : X) (rest more : List X) (n : ℕ) → xs ≡ x ∷ rest → ys ≡ y ∷ more → AreRising key xs → AreRising key ys → HaveValues value ys → key y < key x → key y ≡ n → IsFirstDifference (value_at key value xs) (value_at key value ys) n
second_lower key value xs ys x y rest more n ex ey rising other some lt en =
    let o = subst (AreRising key) ex rising in
    at key value xs (x ∷ rest) ys (y ∷ more) (key y) n ex ey en
    (swapped (value_at key value (y ∷ more)) (value_at key value (x ∷ rest)) (key y)
    (lower_first key value y more (x ∷ rest) (subst (AreRising key) ey other) (subst (HaveValues value) ey some) (lt, above_more key (key y) (key x) rest lt o.0)))

pub first_value : {X V : Type 0} (key : X → ℕ) (value : X → Option V) (xs ys : List X) (x y : X) (rest more : List X) (n : ℕ) → xs ≡ x ∷ rest → ys ≡ y ∷ more → AreRising key xs → AreRising key ys → key x ≡ key y → (value x ≡ value y → ⊥) → key x ≡ n → IsFirstDifference (value_at key value xs) (value_at key value ys) n
first_value key value xs ys x y rest more n ex ey rising other same differ en =
    at key value xs (x ∷ rest) ys (y ∷ more) (key x) n ex ey en
    (values_first key value x y rest more (subst (AreRising key) ex rising) (subst (AreRising key) ey other) same differ)

pub same_number_of : (m n : ℕ) → (m < n → ⊥) → (n < m → ⊥) → m ≡ n
same_number_of m n h k = grind (arith)

match_map : {X : Type 0} (r : Option X) (P P2 : Type 0) (Q Q2 : X → Type 0) → (P → P2) → ((x : X) → Q x → Q2 x) → MatchOption r P Q → MatchOption r P2 Q2
match_map None P P2 Q Q2 p q m = p m
match_map (Some x) P P2 Q Q2 p q m = q x m

pub rest_matches : {X V : Type 0} (key : X → ℕ) (value : X → Option V) (r : Option Name) (xs ys : List X) (x y : X) (rest more : List X) → xs ≡ x ∷ rest → ys ≡ y ∷ more → AreRising key xs → AreRising key ys → x ≡ y → MatchOption r (rest ≡ more) (λ n. IsFirstDifference (value_at key value rest) (value_at key value more) n.number) → MatchOption r (xs ≡ ys) (λ n. IsFirstDifference (value_at key value xs) (value_at key value ys) n.number)
rest_matches key value r xs ys x y rest more ex ey rising other same m =
    match_map r (rest ≡ more) (xs ≡ ys)
    (λ n. IsFirstDifference (value_at key value rest) (value_at key value more) n.number) (λ n. IsFirstDifference (value_at key value xs) (value_at key value ys) n.number)
    (λ e. ex ∙ ((λ i. same i ∷ e i) ∙ sym ey))
    (λ n h. at key value xs (x ∷ rest) ys (y ∷ more) n.number n.number ex ey refl (rest_first key value x y rest more n.number (subst (AreRising key) ex rising) (subst (AreRising key) ey other) same h)) m

-- a library's exports, as they are taken apart
pub filter-own_first : {Y : Type 0} (p : Export → Bool) (g : Y → Export) (ys : List Y) (y : Y) (rest : List Y) → ys ≡ y ∷ rest → p (g y) ≡ true → filter p (map g ys) ≡ g y ∷ filter p (map g rest)
filter-own_first p g ys y rest e h = ap (λ z. filter p (map g z)) e ∙ ap (λ b. if b then g y ∷ filter p (map g rest) else filter p (map g rest)) h

pub all_itself : (es : List Export) → HaveValues itself es
all_itself [] = tt
all_itself (e ∷ es) = (refl, all_itself es)

pub same_itself : (e f : Export) → itself e ≡ itself f → e ≡ f
same_itself e f h = same_Some e f h

pub nil_is : {X : Type 0} (xs : List X) → length xs ≡ 0 → xs ≡ []
nil_is [] h = refl
nil_is (x ∷ xs) h = absurd (omega (arith, h))

-- what is in the order of names rises
above_from : {X : Type 0} (key : X → ℕ) (n : ℕ) (xs : List X) → All (λ x. n < key x) xs → AreAbove key n xs
above_from key n [] h = tt
above_from key n (x ∷ xs) h = (h 0 x (omega arith), above_from key n xs (λ k d lt. h (suc k) d (omega (arith, lt))))

pub rising_from : {X : Type 0} (key : X → ℕ) (xs : List X) → AllPairs (λ x y. key x < key y) xs → AreRising key xs
rising_from key [] h = tt
rising_from key (x ∷ xs) h =
    (above_from key (key x) xs (λ k d lt. h 0 (suc k) d (omega arith) (omega (arith, lt))), rising_from key xs (λ i j d lt within. h (suc i) (suc j) d (omega (arith, lt)) (omega (arith, within))))

pub values_from : {X V : Type 0} (value : X → Option V) (xs : List X) → ((x : X) → Contains xs x → is_some (value x) ≡ true) → HaveValues value xs
values_from value [] h = tt
values_from value (x ∷ xs) h = (h x (here x xs), values_from value xs (λ y k. h y (there x y xs k)))

-- the vocabularies of an article, and the exports of a library
pub article_texts : (k : Corpus) → IsCorpus k → (r : ℕ) (a : Article) → slice_get k.articles r ≡ Some a → AreTexts a.vocabularies
article_texts k corpus r a at =
    let is = corpus.each a (contained k.articles r a at) in
    (rising_from number_of_text a.vocabularies is.found.ascending, values_from text_of a.vocabularies (λ v h. (is.found.fetched v h).1))

pub article_reach : (k : Corpus) → IsCorpus k → (r : ℕ) (a : Article) → slice_get k.articles r ≡ Some a → IsAscending a.reach
article_reach k corpus r a at = (corpus.each a (contained k.articles r a at)).reach.ascending

pub environment_rising : (rows : List Row) (a : Article) → AreInOrder (library_of rows) → AreRising number_of_export (environment rows a)
environment_rising rows a h = rising_from number_of_export (environment rows a) (filter_in_order (is_used_by a) (library_of rows) h)

pub same_text : (v w : NamedText) → v.name.number ≡ w.name.number → v.text ≡ w.text → v ≡ w
same_text v w number text = λ i. record { name = Name-equal v.name w.name number i; text = text i }
