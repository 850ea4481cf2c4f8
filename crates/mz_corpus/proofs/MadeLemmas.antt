-- Articles that are made of what was fetched.
use Rattle.std.proofs.Common.{◌≡◌, ℕ, ◌+◌, ◌<◌, ◌≤◌, ◌⊎◌, Bool, true, false, not, ◌&&◌, ◌||◌, ◌==◌, List, [], ◌∷◌, ◌++◌, length, get_or, take, Option, Some, None, is_some, refl, sym, ap, subst, ◌∙◌, arith, inl, inr}
use Rattle.std.specs.Prelude.{Contains, AllPairs, map, nat_le}
use Rattle.std.specs.List.{list_all}
use Rattle.std.proofs.lemmas.Bool.{false≢true, leb-true, eq-eqb}
use Rattle.std.proofs.lemmas.List.{take_more, take_all, map-append}
use Rattle.std.proofs.lemmas.List.Elements.{Contains-push_cases}
use Rattle.std.proofs.lemmas.List.Kept.{AllPairs-cons}
use Rattle.mz_base.specs.declared.name.Name.{Name}
use Rattle.mz_base.specs.Name.{is_built_in}
use Rattle.mz_base.specs.NamedText.{NamedText}
use Rattle.mz_corpus.specs.Article.{Article, source_of}
use Rattle.mz_corpus.specs.Corpus.{Corpus, IsCorpus, IsArticle, IsReach, IsDirect, links_of, link_of, names_of}
use Rattle.mz_corpus.specs.Fit.{are_apart, is_known, is_empty, is_fit_source, source_names, text_names, is_fit, IsFitSource, AreApart, IsFit}
use Rattle.mz_corpus.specs.Found.{found_in}
use Rattle.mz_corpus.specs.Link.{Link}
use Rattle.mz_corpus.specs.Made.{IsArticleOf, AreArticles}
use Rattle.mz_corpus.specs.Names.{is_among}
use Rattle.mz_corpus.specs.Reach.{direct_of, link_of_source, AreKnown}
use Rattle.mz_corpus.specs.Source.{Source}
use Rattle.mz_corpus.proofs.ContainsLemmas.{Contains-head, Contains-tail, Contains-none, Contains-cases}
use Rattle.mz_corpus.proofs.AscendingLemmas.{Contains-among, among-Contains, every}
use Rattle.mz_corpus.proofs.OrderLemmas.{Contains-map, not_true}
use Rattle.mz_corpus.proofs.ReachLemmas.{IsDirect-direct_of}
use Rattle.mz_corpus.proofs.FoundLemmas.{AreFound-found_in}

abbrev names_in : List Link → List Name
names_in links = map (λ l. l.name) links

map_length : {X Y : Type 0} (f : X → Y) (xs : List X) → length (map f xs) ≡ length xs
map_length f [] = refl
map_length f (x ∷ xs) = let l = map_length f xs in omega arith

-- one article

pub IsArticleOf-made : (links : List Link) (vs : List NamedText) (s : Source) (name : Name) (text : Option (List ℕ)) (dependencies vocabulary_names direct reach : List Name) (vocabularies : List NamedText)
    → name ≡ s.name → text ≡ s.text → dependencies ≡ s.dependencies → vocabulary_names ≡ s.vocabulary_names → direct ≡ direct_of s.dependencies → IsReach links direct reach
    → vocabularies ≡ found_in vs s.vocabulary_names → IsFitSource (names_in links) s → AreApart vs
    → IsArticleOf links vs s (record { name = name; text = text; dependencies = dependencies; vocabulary_names = vocabulary_names; direct = direct; reach = reach; vocabularies = vocabularies })
IsArticleOf-made links vs s name text dependencies vocabulary_names direct reach vocabularies en et ed ev er h ef fit apart = record {
  source = λ i. record { name = en i; text = et i; dependencies = ed i; vocabulary_names = ev i };
  direct = er;
  kept = record {
    not_built_in = rw en fit.not_built_in;
    direct = rw (er, ed) (IsDirect-direct_of s.dependencies);
    known = λ n k. let r = (IsDirect-direct_of s.dependencies).named n (subst (λ ns. Contains ns n) er k) in fit.known n r.0 r.1;
    reach = h;
    found = rw (ef, ev) (AreFound-found_in vs s.vocabulary_names apart);
    missing = λ e. let r = fit.missing (sym et ∙ e) in (ed ∙ r.0, ev ∙ r.1);
  };
}

-- the same, for what is known of the source by another value
pub IsArticleOf-viewed : (links : List Link) (vs : List NamedText) (s t : Source) (name : Name) (text : Option (List ℕ)) (dependencies vocabulary_names direct reach : List Name) (vocabularies : List NamedText)
    → s ≡ t → name ≡ s.name → text ≡ s.text → dependencies ≡ s.dependencies → vocabulary_names ≡ s.vocabulary_names → direct ≡ direct_of s.dependencies → IsReach links direct reach
    → vocabularies ≡ found_in vs s.vocabulary_names → IsFitSource (names_in links) t → AreApart vs
    → IsArticleOf links vs t (record { name = name; text = text; dependencies = dependencies; vocabulary_names = vocabulary_names; direct = direct; reach = reach; vocabularies = vocabularies })
IsArticleOf-viewed links vs s t name text dependencies vocabulary_names direct reach vocabularies e en et ed ev er h ef fit apart =
    subst (λ u. IsArticleOf links vs u (record { name = name; text = text; dependencies = dependencies; vocabulary_names = vocabulary_names; direct = direct; reach = reach; vocabularies = vocabularies })) e
    (IsArticleOf-made links vs s name text dependencies vocabulary_names direct reach vocabularies en et ed ev er h ef (subst (λ u. IsFitSource (names_in links) u) (sym e) fit) apart)

-- articles in turn

pub AreArticles-none : (links : List Link) (vs : List NamedText) → AreArticles links vs [] []
AreArticles-none links vs = record { sources = refl; linked = refl; each = λ a h. absurd (Contains-none a h) }

pub AreArticles-turn : (links : List Link) (vs : List NamedText) (all : List Source) (i : ℕ) (s : Source) (c after : List Article) (a : Article) → i < length all → s ≡ get_or all i s
    → AreArticles links vs (take i all) c → IsArticleOf links vs s a → after ≡ c ++ a ∷ [] → AreArticles links vs (take (i + 1) all) after
AreArticles-turn links vs all i s c after a lt at h k e =
    let more : take (i + 1) all ≡ take i all ++ s ∷ [] = take_more all i s lt ∙ ap (λ t. take i all ++ t ∷ []) (sym at) in
    rw (more, e) (record {
      sources = map-append source_of c (a ∷ []) ∙ (λ j. h.sources j ++ k.source j ∷ []);
      linked = map-append link_of c (a ∷ []) ∙ (λ j. h.linked j ++ record { name = (k.source j).name; direct = k.direct j } ∷ []) ∙ sym (map-append link_of_source (take i all) (s ∷ []));
      each = λ b held. elim (Contains-push_cases c a b held) [ inl j ↦ h.each b j | inr same ↦ subst (λ x. IsArticle (names_in links) links vs x) same k.kept ];
    })

-- what is known

names_in-links : (ss : List Source) → names_in (map link_of_source ss) ≡ source_names ss
names_in-links [] = refl
names_in-links (s ∷ ss) = ap (λ ns. s.name ∷ ns) (names_in-links ss)

in_links : (ss : List Source) (l : Link) → Contains (map link_of_source ss) l → (s : Source) × Contains ss s × (link_of_source s ≡ l)
in_links [] l h = absurd (Contains-none l h)
in_links (s ∷ ss) l h = elim (Contains-cases (link_of_source s) (map link_of_source ss) l h) [ inl e ↦ (s, Contains-head s ss, e) | inr k ↦ (let r = in_links ss l k in (r.0, Contains-tail s ss r.0 r.1, r.2)) ]

source_known : (links : List Link) (ss : List Source) (vs : List NamedText) (s : Source) → links ≡ map link_of_source ss → IsFit ss vs → Contains ss s → AreKnown links (direct_of s.dependencies)
source_known links ss vs s e fit held n h =
    let r = (IsDirect-direct_of s.dependencies).named n h in
    subst (λ ns. Contains ns n) (sym (ap names_in e ∙ names_in-links ss)) ((fit.each s held).known n r.0 r.1)

pub AreKnown-source : (links : List Link) (ss : List Source) (vs : List NamedText) (s : Source) → links ≡ map link_of_source ss → IsFit ss vs → Contains ss s → AreKnown links (direct_of s.dependencies)
AreKnown-source links ss vs s e fit held = source_known links ss vs s e fit held

pub AreKnown-links : (links : List Link) (ss : List Source) (vs : List NamedText) → links ≡ map link_of_source ss → IsFit ss vs → (l : Link) → Contains links l → AreKnown links l.direct
AreKnown-links links ss vs e fit l held =
    let r = in_links ss l (subst (λ ls. Contains ls l) e held) in
    subst (λ k. AreKnown links k.direct) r.2 (source_known links ss vs r.0 e fit r.1)

pub IsFitSource-links : (links : List Link) (ss : List Source) (vs : List NamedText) (s : Source) → links ≡ map link_of_source ss → IsFit ss vs → Contains ss s → IsFitSource (names_in links) s
IsFitSource-links links ss vs s e fit held = subst (λ ns. IsFitSource ns s) (sym (ap names_in e ∙ names_in-links ss)) (fit.each s held)

-- the corpus

names_of-sources : (c : List Article) → names_of c ≡ source_names (map source_of c)
names_of-sources [] = refl
names_of-sources (a ∷ c) = ap (λ ns. a.name ∷ ns) (names_of-sources c)

pub IsCorpus-made : (links : List Link) (ss : List Source) (vs : List NamedText) (c : List Article) → links ≡ map link_of_source ss → IsFit ss vs → AreArticles links vs ss c → IsCorpus (record { articles = c; vocabularies = vs })
IsCorpus-made links ss vs c e fit made =
    let names : names_of c ≡ source_names ss = names_of-sources c ∙ ap source_names made.sources in
    let linked : links_of c ≡ links = made.linked ∙ sym e in
    let in_names : names_in links ≡ names_of c = ap names_in e ∙ names_in-links ss ∙ sym names in
    record {
      few = (let l : length c ≡ length ss = sym (map_length source_of c) ∙ ap length made.sources in let f = fit.few in omega arith);
      distinct = rw names fit.distinct;
      each = λ a held. subst (λ ls. IsArticle (names_of c) ls vs a) (sym linked) (subst (λ ns. IsArticle ns links vs a) in_names (made.each a held));
    }

-- what a test tells

and_left : (a b : Bool) → a && b ≡ true → a ≡ true
and_left true b h = refl
and_left false b h = h

and_right : (a b : Bool) → a && b ≡ true → b ≡ true
and_right true b h = h
and_right false b h = absurd (false≢true h)

each_passes : {X : Type 0} (p : X → Bool) (xs : List X) → list_all p xs ≡ true → (x : X) → Contains xs x → p x ≡ true
each_passes p [] h x k = absurd (Contains-none x k)
each_passes p (y ∷ ys) h x k = elim (Contains-cases y ys x k) [ inl e ↦ subst (λ z. p z ≡ true) e (and_left (p y) (list_all p ys) h) | inr j ↦ each_passes p ys (and_right (p y) (list_all p ys) h) x j ]

apart_tail : (n : Name) (ns : List Name) → are_apart (n ∷ ns) ≡ true → (m : Name) → Contains ns m → n ≡ m → ⊥
apart_tail n ns h m k e =
    let lacks : is_among ns n ≡ false = not_true (is_among ns n) (and_left (not (is_among ns n)) (are_apart ns) h) in
    let has : is_among ns n ≡ true = among-Contains ns n (subst (λ x. Contains ns x) (sym e) k) in
    absurd (false≢true (sym lacks ∙ has))

AllPairs-apart : (ns : List Name) → are_apart ns ≡ true → AllPairs (λ m n. m ≡ n → ⊥) ns
AllPairs-apart [] h = λ i j d lt within. omega arith
AllPairs-apart (n ∷ ns) h = AllPairs-cons (λ m n. m ≡ n → ⊥) n ns (every (λ m. n ≡ m → ⊥) ns (apart_tail n ns h)) (AllPairs-apart ns (and_right (not (is_among ns n)) (are_apart ns) h))

AreApart-texts : (vs : List NamedText) → are_apart (text_names vs) ≡ true → AreApart vs
AreApart-texts [] h v w hv hw e = absurd (Contains-none v hv)
AreApart-texts (u ∷ vs) h v w hv hw e =
    let no : (x : NamedText) → Contains vs x → u.name ≡ x.name → ⊥ = λ x k same. apart_tail u.name (text_names vs) h x.name (Contains-map (λ y. y.name) vs x k) same in
    elim (Contains-cases u vs v hv) [
      | inl a ↦ elim (Contains-cases u vs w hw) [ inl b ↦ sym a ∙ b | inr b ↦ absurd (no w b (ap (λ y. y.name) a ∙ e)) ]
      | inr a ↦ elim (Contains-cases u vs w hw) [
        | inl b ↦ absurd (no v a (ap (λ y. y.name) b ∙ sym e))
        | inr b ↦ AreApart-texts vs (and_right (not (is_among (text_names vs) u.name)) (are_apart (text_names vs)) h) v w a b e
      ]
    ]

known_by : (ns : List Name) (n : Name) → is_known ns n ≡ true → is_built_in n.number ≡ false → Contains ns n
known_by ns n h e = Contains-among ns n (sym (ap (λ b. b || is_among ns n) e) ∙ h)

empty_list : (ns : List Name) → is_empty ns ≡ true → ns ≡ []
empty_list [] h = refl
empty_list (n ∷ ns) h = absurd (false≢true h)

missing_by : (s : Source) (t : Option (List ℕ)) → is_some t || (is_empty s.dependencies && is_empty s.vocabulary_names) ≡ true → t ≡ None → (s.dependencies ≡ []) × (s.vocabulary_names ≡ [])
missing_by s t h e =
    let both : is_empty s.dependencies && is_empty s.vocabulary_names ≡ true = sym (ap (λ o. is_some o || (is_empty s.dependencies && is_empty s.vocabulary_names)) e) ∙ h in
    (empty_list s.dependencies (and_left (is_empty s.dependencies) (is_empty s.vocabulary_names) both), empty_list s.vocabulary_names (and_right (is_empty s.dependencies) (is_empty s.vocabulary_names) both))

fit_source : (ns : List Name) (s : Source) → is_fit_source ns s ≡ true → IsFitSource ns s
fit_source ns s h =
    let a = not (is_built_in s.name.number) in
    let b = list_all (is_known ns) s.dependencies in
    let c = is_some s.text || (is_empty s.dependencies && is_empty s.vocabulary_names) in
    let ab : a && b ≡ true = and_left (a && b) c h in
    record {
      not_built_in = not_true (is_built_in s.name.number) (and_left a b ab);
      known = λ n k e. known_by ns n (each_passes (is_known ns) s.dependencies (and_right a b ab) n k) e;
      missing = missing_by s s.text (and_right (a && b) c h);
    }

pub IsFit-tested : (ss : List Source) (vs : List NamedText) → is_fit ss vs ≡ true → IsFit ss vs
IsFit-tested ss vs h =
    let a = nat_le (length ss) 512 in
    let b = are_apart (source_names ss) in
    let c = list_all (is_fit_source (source_names ss)) ss in
    let d = are_apart (text_names vs) in
    let abc : a && b && c ≡ true = and_left (a && b && c) d h in
    let ab : a && b ≡ true = and_left (a && b) c abc in
    record {
      few = leb-true (length ss) 512 (and_left a b ab);
      distinct = AllPairs-apart (source_names ss) (and_right a b ab);
      each = λ s k. fit_source (source_names ss) s (each_passes (is_fit_source (source_names ss)) ss (and_right (a && b) c abc) s k);
      apart = AreApart-texts vs (and_right (a && b && c) d h);
    }

pub Contains-item : {X : Type 0} (xs : List X) (i : ℕ) (x : X) → i < length xs → x ≡ get_or xs i x → Contains xs x
Contains-item xs i x lt e = (i, lt, sym e)
