-- What contracts see of an article of a corpus.
use Rattle.std.specs.Prelude.{List, ℕ, Bool, Option}
use Rattle.mz_base.specs.declared.name.Name.{Name}
use Rattle.mz_base.specs.NamedText.{NamedText}
use Rattle.mz_corpus.specs.Names.{is_among}
use Rattle.mz_corpus.specs.Source.{Source}

-- what was fetched for the article, and, in the order of names, its direct dependencies and all of its dependencies,
-- without built-in names, and those of its vocabularies that were found
pub record Article : Type 0 where
  pub name : Name
  pub text : Option (List ℕ)
  pub dependencies : List Name
  pub vocabulary_names : List Name
  pub direct : List Name
  pub reach : List Name
  pub vocabularies : List NamedText

-- what was fetched for the article
abbrev pub source_of : Article → Source
source_of a = record { name = a.name; text = a.text; dependencies = a.dependencies; vocabulary_names = a.vocabulary_names }

-- whether the article is among its own dependencies
abbrev pub is_cyclic : Article → Bool
is_cyclic a = is_among a.reach a.name
