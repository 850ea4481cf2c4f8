-- What a corpus keeps.
use Rattle.std.specs.Prelude.{◌≡◌, ◌<◌, ◌≤◌, ℕ, true, false, not, List, [], ◌∷◌, Option, Some, None, length, map, filter, AllPairs, Contains, is_some}
use Rattle.mz_base.specs.declared.name.Name.{Name}
use Rattle.mz_base.specs.Name.{is_built_in}
use Rattle.mz_base.specs.NamedText.{NamedText}
use Rattle.mz_corpus.specs.Article.{Article}
use Rattle.mz_corpus.specs.Link.{Link}

-- articles, in the order of gathering, and vocabularies, in the order in which they were fetched
pub record Corpus : Type 0 where
  pub articles : List Article
  pub vocabularies : List NamedText

-- each name is below the later ones, by its bytes
abbrev pub IsAscending : List Name → Type 0
IsAscending ns = AllPairs (λ m n. m.number < n.number) ns

abbrev pub names_of : List Article → List Name
names_of c = map (λ a. a.name) c

-- the article's name and its direct dependencies
abbrev pub link_of : Article → Link
link_of a = record { name = a.name; direct = a.direct }

abbrev pub links_of : List Article → List Link
links_of c = map link_of c

-- an article with these direct dependencies depends on the name: directly, or by another article
pub data DependsOn (links : List Link) (direct : List Name) : Name → Type 0 where
  directly : (n : Name) → Contains direct n → DependsOn links direct n
  by_another : (l : Link) (n : Name) → Contains links l → DependsOn links direct l.name → Contains l.direct n → DependsOn links direct n

-- in the order of names, exactly those on which an article with these direct dependencies depends
pub record IsReach (links : List Link) (direct reach : List Name) : Type 0 where
  pub ascending : IsAscending reach
  pub depends : (n : Name) → Contains reach n → DependsOn links direct n
  pub all : (n : Name) → DependsOn links direct n → Contains reach n

-- in the order of names, exactly those names that aren't built in
pub record IsDirect (dependencies direct : List Name) : Type 0 where
  pub ascending : IsAscending direct
  pub named : (n : Name) → Contains direct n → Contains dependencies n × (is_built_in n.number ≡ false)
  pub all : (n : Name) → Contains dependencies n → is_built_in n.number ≡ false → Contains direct n

-- in the order of names, exactly those of the vocabularies with these names that have a text
pub record AreFound (all : List NamedText) (names : List Name) (found : List NamedText) : Type 0 where
  pub ascending : AllPairs (λ v w. v.name.number < w.name.number) found
  pub fetched : (v : NamedText) → Contains found v → Contains all v × (is_some v.text ≡ true) × Contains names v.name
  pub each : (v : NamedText) → Contains all v → is_some v.text ≡ true → Contains names v.name → Contains found v

-- what an article keeps: names are those of all articles, links those with their direct dependencies
pub record IsArticle (names : List Name) (links : List Link) (vocabularies : List NamedText) (a : Article) : Type 0 where
  pub not_built_in : is_built_in a.name.number ≡ false
  pub direct : IsDirect a.dependencies a.direct
  pub known : (n : Name) → Contains a.direct n → Contains names n
  pub reach : IsReach links a.direct a.reach
  pub found : AreFound vocabularies a.vocabulary_names a.vocabularies
  pub missing : a.text ≡ None → (a.dependencies ≡ []) × (a.vocabulary_names ≡ [])

-- at most 512 articles with distinct names, none of them built in, each of which keeps the above
pub record IsCorpus (c : Corpus) : Type 0 where
  pub few : length c.articles ≤ 512
  pub distinct : AllPairs (λ m n. m ≡ n → ⊥) (names_of c.articles)
  pub each : (a : Article) → Contains c.articles a → IsArticle (names_of c.articles) (links_of c.articles) c.vocabularies a
