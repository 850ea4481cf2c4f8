-- Articles that are made of what was fetched.
use Rattle.std.specs.Prelude.{◌≡◌, List, map, Contains}
use Rattle.mz_base.specs.NamedText.{NamedText}
use Rattle.mz_corpus.specs.Article.{Article, source_of}
use Rattle.mz_corpus.specs.Corpus.{IsArticle, links_of}
use Rattle.mz_corpus.specs.Link.{Link}
use Rattle.mz_corpus.specs.Reach.{direct_of, link_of_source}
use Rattle.mz_corpus.specs.Source.{Source}

-- the article for which this was fetched
pub record IsArticleOf (links : List Link) (vocabularies : List NamedText) (s : Source) (a : Article) : Type 0 where
  pub source : source_of a ≡ s
  pub direct : a.direct ≡ direct_of s.dependencies
  pub kept : IsArticle (map (λ l. l.name) links) links vocabularies a

-- the articles for which these were fetched
pub record AreArticles (links : List Link) (vocabularies : List NamedText) (ss : List Source) (c : List Article) : Type 0 where
  pub sources : map source_of c ≡ ss
  pub linked : links_of c ≡ map link_of_source ss
  pub each : (a : Article) → Contains c a → IsArticle (map (λ l. l.name) links) links vocabularies a
