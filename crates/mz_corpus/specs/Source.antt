-- What was fetched for an article.
use Rattle.std.specs.Prelude.{List, ℕ, Option}
use Rattle.mz_base.specs.declared.name.Name.{Name}

-- an article's text, none where there is no such text, the names of its direct dependencies and those of its
-- vocabularies, each once, in the order of the text
pub record Source : Type 0 where
  pub name : Name
  pub text : Option (List ℕ)
  pub dependencies : List Name
  pub vocabulary_names : List Name
