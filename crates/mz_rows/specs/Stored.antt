-- What a table keeps.
use Rattle.std.specs.Prelude.{◌≡◌, ℕ, List, length, map}
use Rattle.mz_core.specs.declared.outcome.Export.{Export}
use Rattle.mz_core.specs.declared.verdict.Entry.{Entry}
use Rattle.mz_corpus.specs.Article.{Article}
use Rattle.mz_turns.specs.Dependencies.{direct_rows}
use Rattle.mz_turns.specs.Library.{library_of}
use Rattle.mz_rows.specs.declared.standing.Standing.{Standing}
use Rattle.mz_rows.specs.Standing.{rows_from}
use Rattle.mz_rows.specs.Entries.{entries_of}

-- the rows of dependencies, the entries and the library are those of the articles and their rows
pub record IsStored (c : List Article) (links : List (List ℕ)) (ss : List Standing) (es : List Entry) (library : List Export) : Type 0 where
  pub linked : links ≡ map (direct_rows c) c
  pub whole : length ss ≡ length c
  pub entries : es ≡ entries_of c (rows_from ss es)
  pub accepted : library ≡ library_of (rows_from ss es)
