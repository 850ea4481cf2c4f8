-- What a gathering keeps.
use Rattle.std.specs.Prelude.{◌≡◌, ◌≤◌, ℕ, false, List, [], Option, None, length, take, AllPairs, Contains}
use Rattle.mz_base.specs.declared.name.Name.{Name}
use Rattle.mz_base.specs.Name.{is_built_in}
use Rattle.mz_corpus.specs.Fit.{AreApart, source_names}
use Rattle.mz_corpus.specs.Gather.{Gathered}
use Rattle.mz_corpus.specs.Source.{Source}

-- the direct dependencies of what was fetched are built in or queued, and nothing is named where there is no text
pub record IsQueued (queue : List Name) (s : Source) : Type 0 where
  pub known : (n : Name) → Contains s.dependencies n → is_built_in n.number ≡ false → Contains queue n
  pub missing : s.text ≡ None → (s.dependencies ≡ []) × (s.vocabulary_names ≡ [])

-- the queue has distinct names, none of them built in, and the articles that were fetched are those at its front
pub record IsOrderly (g : Gathered) : Type 0 where
  pub distinct : AllPairs (λ m n. m ≡ n → ⊥) g.queue
  pub fetched : (n : Name) → Contains g.queue n → is_built_in n.number ≡ false
  pub within : length g.sources ≤ length g.queue
  pub names : source_names g.sources ≡ take (length g.sources) g.queue
  pub each : (s : Source) → Contains g.sources s → IsQueued g.queue s
  pub apart : AreApart g.vocabularies
