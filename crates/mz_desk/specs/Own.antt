-- A job with its article's own input.
use Rattle.std.specs.Prelude.{◌≡◌, ℕ, List, Some, slice_get}
use Rattle.mz_core.specs.declared.outcome.Export.{Export}
use Rattle.mz_axioms.specs.Checker.{OutcomeRelation}
use Rattle.mz_corpus.specs.Article.{Article}
use Rattle.mz_turns.specs.Dependencies.{place_of, all_rows}
use Rattle.mz_turns.specs.Library.{IsLibrary}
use Rattle.mz_turns.specs.Verdicts.{AllAccepted}
use Rattle.mz_desk.specs.Job.{Job}
use Rattle.mz_desk.specs.declared.claim.Claim.{Claim}
use Rattle.mz_desk.specs.declared.claim.Claim.TheVariants as claim

-- the text and the vocabularies are those of the job's article, all of whose dependencies have accepted verdicts,
-- and the exports are the library of these. So it is the article's input on each desk over the corpus
pub record HasOwnInput (is_outcome : OutcomeRelation) (c : List Article) (j : Job) : Type 0 where
  pub article : Article
  pub is_at : slice_get c (place_of c j.name) ≡ Some article
  pub text : article.text ≡ Some j.text
  pub vocabularies : article.vocabularies ≡ j.vocabularies
  pub verdicts : List Export
  pub accepted : AllAccepted is_outcome c (all_rows c article) verdicts
  pub exports : IsLibrary verdicts j.exports

-- the job that a claim gives has it
abbrev pub GivesOwnInput : OutcomeRelation → List Article → Claim → Type 0
GivesOwnInput is_outcome c (claim.Take j) = HasOwnInput is_outcome c j
GivesOwnInput is_outcome c (claim.NotYet k) = Unit {0}
GivesOwnInput is_outcome c claim.Finished = Unit {0}
