-- What the articles of an order come to, and the text on it.
use Rattle.std.specs.Prelude.{◌≡◌, ℕ, Bool, true, List, Option, is_some}
use Rattle.std.specs.List.{list_all}
use Rattle.mz_core.specs.declared.outcome.Export.{Export}
use Rattle.mz_core.specs.declared.verdict.Entry.{Entry}
use Rattle.mz_axioms.specs.Checker.{OutcomeRelation}
use Rattle.mz_axioms.specs.Library.{Sound}
use Rattle.mz_io.specs.declared.file.File.{File}
use Rattle.mz_words.specs.Words.{Asked}
use Rattle.mz_corpus.specs.Corpus.{Corpus, IsCorpus}
use Rattle.mz_corpus.specs.Order.{IsOrder}
use Rattle.mz_corpus.specs.declared.ordering.Ordering.{Ordering}
use Rattle.mz_turns.specs.Row.{Row}
use Rattle.mz_turns.specs.Library.{library_of}
use Rattle.mz_turns.specs.Verdicts.{AreVerdicts}
use Rattle.mz_rows.specs.Entries.{entries_of}
use Rattle.mz_report.specs.Report.{is_accepted}
use Rattle.mz_listing.specs.Output.{output_text}
use Rattle.mz_run.specs.Gathered.{is_known, IsGatheredFor}

-- a corpus, the order in which its articles are checked, how each stands in the end, and the library
pub record Checked : Type 0 where
  pub corpus : Corpus
  pub order : Ordering
  pub rows : List Row
  pub library : List Export

-- the articles are checked one after another: in the order of their corpus, with the verdict of each, and with the library of
-- those that are accepted, which is sound
pub record IsChecked (is_outcome : OutcomeRelation) (x : Checked) : Type 0 where
  pub corpus : IsCorpus x.corpus
  pub order : IsOrder x.corpus.articles x.order
  pub verdicts : AreVerdicts is_outcome x.corpus.articles x.rows
  pub library : x.library ≡ library_of x.rows
  pub sound : Sound x.library

-- the same of the corpus that is gathered for an order, where its files are known; of some corpus where they aren't
pub record IsCheckedFor (is_outcome : OutcomeRelation) (told : Option (List File)) (a : Asked) (x : Checked) : Type 0 where
  pub gathered : is_known told a ≡ true → IsGatheredFor told a x.corpus
  pub checked : IsChecked is_outcome x

-- what the report says of each article
abbrev pub entries_in : Checked → List Entry
entries_in x = entries_of x.corpus.articles x.rows

-- whether every article is accepted
abbrev pub are_accepted : List Entry → Bool
are_accepted es = list_all (λ e. is_accepted e.verdict) es

-- the report, and the listing of the library where the order asks for it; for made articles the report's last line alone
abbrev pub text_of : Asked → Checked → List ℕ
text_of a x = output_text (is_some a.generate) a.list x.order (entries_in x) x.library
