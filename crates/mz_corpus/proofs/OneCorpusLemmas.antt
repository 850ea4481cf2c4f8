-- There is one corpus of what was gathered.
use Rattle.std.proofs.Common.{◌≡◌, ℕ, List, [], ◌∷◌, Option, refl, sym, ap, subst, ◌∙◌}
use Rattle.std.specs.Prelude.{Contains, map}
use Rattle.mz_base.specs.declared.name.Name.{Name}
use Rattle.mz_base.specs.Name.{is_built_in}
use Rattle.mz_base.specs.NamedText.{NamedText}
use Rattle.mz_corpus.specs.Article.{Article, source_of}
use Rattle.mz_corpus.specs.Corpus.{Corpus, IsCorpus, IsArticle, IsDirect, IsReach, AreFound, links_of, link_of, names_of}
use Rattle.mz_corpus.specs.Gather.{Gathered, IsCorpusOf}
use Rattle.mz_corpus.specs.Link.{Link}
use Rattle.mz_corpus.specs.Source.{Source}
use Rattle.mz_corpus.proofs.ContainsLemmas.{Contains-head, Contains-tail}
use Rattle.mz_corpus.proofs.SortedLemmas.{RisesBy-pairs, one_sorted}

-- the parts of an article

one_direct : (ns : List Name) (direct other : List Name) → IsDirect ns direct → IsDirect ns other → direct ≡ other
one_direct ns direct other h k =
    one_sorted (λ n. n.number) direct other (RisesBy-pairs (λ n. n.number) direct h.ascending) (RisesBy-pairs (λ n. n.number) other k.ascending) (λ n held. let r = h.named n held in k.all n r.0 r.1)
    (λ n held. let r = k.named n held in h.all n r.0 r.1)

one_reach : (links : List Link) (direct reach other : List Name) → IsReach links direct reach → IsReach links direct other → reach ≡ other
one_reach links direct reach other h k =
    one_sorted (λ n. n.number) reach other (RisesBy-pairs (λ n. n.number) reach h.ascending) (RisesBy-pairs (λ n. n.number) other k.ascending) (λ n held. k.all n (h.depends n held)) (λ n held. h.all n (k.depends n held))

one_found : (all : List NamedText) (names : List Name) (found other : List NamedText) → AreFound all names found → AreFound all names other → found ≡ other
one_found all names found other h k =
    one_sorted (λ v. v.name.number) found other (RisesBy-pairs (λ v. v.name.number) found h.ascending) (RisesBy-pairs (λ v. v.name.number) other k.ascending)
    (λ v held. let r = h.fetched v held in k.each v r.0 r.1 r.2) (λ v held. let r = k.fetched v held in h.each v r.0 r.1 r.2)

same_direct : (a b : Article) → source_of a ≡ source_of b → IsDirect a.dependencies a.direct → IsDirect b.dependencies b.direct → a.direct ≡ b.direct
same_direct a b e h k = one_direct a.dependencies a.direct b.direct h (subst (λ ns. IsDirect ns b.direct) (sym (ap (λ s. s.dependencies) e)) k)

-- the articles

abbrev IsRight : List Link → List NamedText → Article → Type 0
IsRight links vs a = IsDirect a.dependencies a.direct × IsReach links a.direct a.reach × AreFound vs a.vocabulary_names a.vocabularies

one_article : (links : List Link) (vs : List NamedText) (a b : Article) → source_of a ≡ source_of b → IsRight links vs a → IsRight links vs b → a ≡ b
one_article links vs a b e h k =
    let direct = same_direct a b e h.0 k.0 in
    let reach = one_reach links a.direct a.reach b.reach h.1 (subst (λ ns. IsReach links ns b.reach) (sym direct) k.1) in
    let found = one_found vs a.vocabulary_names a.vocabularies b.vocabularies h.2 (subst (λ ns. AreFound vs ns b.vocabularies) (sym (ap (λ s. s.vocabulary_names) e)) k.2) in
    λ i. record {
      name = (e i).name;
      text = (e i).text;
      dependencies = (e i).dependencies;
      vocabulary_names = (e i).vocabulary_names;
      direct = direct i;
      reach = reach i;
      vocabularies = found i;
    }

head_of : {X : Type 0} (x y : X) (xs ys : List X) → x ∷ xs ≡ y ∷ ys → x ≡ y
head_of x y xs ys e = cc

tail_of : {X : Type 0} (x y : X) (xs ys : List X) → x ∷ xs ≡ y ∷ ys → xs ≡ ys
tail_of x y xs ys e = cc

one_list : (links : List Link) (vs : List NamedText) (c d : List Article) → map source_of c ≡ map source_of d → ((a : Article) → Contains c a → IsRight links vs a) → ((a : Article) → Contains d a → IsRight links vs a) → c ≡ d
one_list links vs [] [] e h k = refl
one_list links vs [] (b ∷ d) e h k = cc
one_list links vs (a ∷ c) [] e h k = cc
one_list links vs (a ∷ c) (b ∷ d) e h k =
    let one = one_article links vs a b (head_of (source_of a) (source_of b) (map source_of c) (map source_of d) e) (h a (Contains-head a c)) (k b (Contains-head b d)) in
    let rest = one_list links vs c d (tail_of (source_of a) (source_of b) (map source_of c) (map source_of d) e) (λ x held. h x (Contains-tail a c x held)) (λ x held. k x (Contains-tail b d x held)) in
    λ i. one i ∷ rest i

same_links : (c d : List Article) → map source_of c ≡ map source_of d → ((a : Article) → Contains c a → IsDirect a.dependencies a.direct) → ((a : Article) → Contains d a → IsDirect a.dependencies a.direct) → links_of c ≡ links_of d
same_links [] [] e h k = refl
same_links [] (b ∷ d) e h k = cc
same_links (a ∷ c) [] e h k = cc
same_links (a ∷ c) (b ∷ d) e h k =
    let s = head_of (source_of a) (source_of b) (map source_of c) (map source_of d) e in
    let direct = same_direct a b s (h a (Contains-head a c)) (k b (Contains-head b d)) in
    let rest = same_links c d (tail_of (source_of a) (source_of b) (map source_of c) (map source_of d) e) (λ x held. h x (Contains-tail a c x held)) (λ x held. k x (Contains-tail b d x held)) in
    λ i. record { name = (s i).name; direct = direct i } ∷ rest i

right_of : (c : Corpus) → IsCorpus c → (a : Article) → Contains c.articles a → IsRight (links_of c.articles) c.vocabularies a
right_of c h a held = let k = h.each a held in (k.direct, k.reach, k.found)

pub one_corpus : (g : Gathered) (c d : Corpus) → IsCorpus c → IsCorpus d → IsCorpusOf g c → IsCorpusOf g d → c ≡ d
one_corpus g c d hc hd oc od =
    let sources : map source_of c.articles ≡ map source_of d.articles = oc.sources ∙ sym od.sources in
    let vs : c.vocabularies ≡ d.vocabularies = oc.vocabularies ∙ sym od.vocabularies in
    let links = same_links c.articles d.articles sources (λ a held. (hc.each a held).direct) (λ a held. (hd.each a held).direct) in
    let articles =
    one_list (links_of c.articles) c.vocabularies c.articles d.articles sources (right_of c hc) (λ a held. let r = right_of d hd a held in
    (r.0, subst (λ ls. IsReach ls a.direct a.reach) (sym links) r.1, subst (λ xs. AreFound xs a.vocabulary_names a.vocabularies) (sym vs) r.2)) in
    λ i. record { articles = articles i; vocabularies = vs i }
