-- The order of a corpus.
use Rattle.std.specs.Prelude.{◌≡◌, ◌≤◌, ℕ, Bool, true, false, not, ◌&&◌, ◌||◌, List, [], ◌∷◌, ◌++◌, Contains, filter}
use Rattle.std.specs.List.{list_all, list_any}
use Rattle.mz_base.specs.declared.name.Name.{Name}
use Rattle.mz_base.specs.Name.{is_built_in}
use Rattle.mz_corpus.specs.Article.{Article}
use Rattle.mz_corpus.specs.Corpus.{IsAscending, names_of}
use Rattle.mz_corpus.specs.Names.{is_among}
use Rattle.mz_corpus.specs.declared.ordering.Ordering.{Ordering}

-- whether the name is built in or taken
abbrev pub is_at_hand : List Name → Name → Bool
is_at_hand taken n = is_built_in n.number || is_among taken n

-- whether the article isn't taken, and its dependencies are all taken or built in
abbrev pub is_ready : List Name → Article → Bool
is_ready taken a = not (is_among taken a.name) && list_all (is_at_hand taken) a.dependencies

-- the name is the first in the order of bytes of those of ready articles
pub record IsFirstReady (c : List Article) (taken : List Name) (n : Name) : Type 0 where
  pub article : Article
  pub held : Contains c article
  pub named : article.name ≡ n
  pub ready : is_ready taken article ≡ true
  pub first : (a : Article) → Contains c a → is_ready taken a ≡ true → n.number ≤ a.name.number

abbrev pub NoneReady : List Article → List Name → Type 0
NoneReady c taken = (a : Article) → Contains c a → is_ready taken a ≡ true → ⊥

-- the first ready name is taken, again and again, until none is ready: the names that are taken after those of the first list
pub data Takes (c : List Article) : List Name → List Name → Type 0 where
  end : (taken : List Name) → NoneReady c taken → Takes c taken []
  take : (taken ns : List Name) (n : Name) → IsFirstReady c taken n → Takes c (taken ++ n ∷ []) ns → Takes c taken (n ∷ ns)

-- the names that can be taken, in turn, and the rest, in the order of bytes
pub record IsOrder (c : List Article) (o : Ordering) : Type 0 where
  pub takes : Takes c [] o.order
  pub rest_ascending : IsAscending o.rest
  pub rest : (n : Name) → Contains o.rest n → Contains (names_of c) n × (is_among o.order n ≡ false)
  pub all : (n : Name) → Contains (names_of c) n → is_among o.order n ≡ false → Contains o.rest n

-- the names of the articles that aren't taken
abbrev pub left_names : List Article → List Name → List Name
left_names c taken = filter (λ n. not (is_among taken n)) (names_of c)
