-- Laws of what is written.
use Rattle.std.specs.Prelude.{◌≡◌, ◌≤◌, ◌<◌, ℕ, true, List, ◌++◌, Option, Some, length, Contains}
use Rattle.mz_core.specs.declared.outcome.Export.{Export}
use Rattle.mz_core.specs.declared.verdict.Entry.{Entry}
use Rattle.mz_core.specs.declared.verdict.Verdict.TheVariants.{Accepted}
use Rattle.mz_axioms.specs.Checker.{OutcomeRelation}
use Rattle.mz_axioms.specs.Library.{OwesDerivable}
use Rattle.mz_io.specs.declared.file.File.{File}
use Rattle.mz_io.specs.Sink.{with_bytes, TookPrefix, TookPart}
use Rattle.mz_words.specs.Words.{Asked}
use Rattle.mz_corpus.specs.Gather.{GatherResult}
use Rattle.mz_rows.specs.Counts.{counts_of}
use Rattle.mz_run.specs.Gathered.{GathersFor, is_known}
use Rattle.mz_run.specs.Checked.{Checked, IsChecked, IsCheckedFor, entries_in}

-- an order has one gathering
abbrev pub OneGatheringLaw : Type 0
OneGatheringLaw = (told : Option (List File)) (a : Asked) (r q : GatherResult) → GathersFor told a r → GathersFor told a q → r ≡ q

-- where the files of an order are known, its articles come to one corpus, order, list of verdicts and library; so there is
-- one text on them
abbrev pub OneOutputLaw : OutcomeRelation → Type 0
OneOutputLaw is_outcome =
    (told : Option (List File)) (a : Asked) (x y : Checked) → is_known told a ≡ true → IsCheckedFor is_outcome told a x → IsCheckedFor is_outcome told a y → x ≡ y

-- the library has one export of the entry's name; it has as many items of each kind as the entry says, and each sequent that
-- one of its items owes derives from the axioms, the grants of the articles on which it depends, and those of its items before
pub record IsBacked (library : List Export) (e : Entry) : Type 0 where
  pub export : Export
  pub held : Contains library export
  pub named : export.name ≡ e.name
  pub only : (f : Export) → Contains library f → f.name ≡ e.name → f ≡ export
  pub counts : e.counts ≡ counts_of export.items
  pub derivable : OwesDerivable library export

-- this holds of each article that the report says is accepted
abbrev pub AcceptedLaw : OutcomeRelation → Type 0
AcceptedLaw is_outcome =
    (x : Checked) (e : Entry) → IsChecked is_outcome x → Contains (entries_in x) e → e.verdict ≡ Some Accepted → IsBacked x.library e

-- two texts that were taken one behind the other are one text that was taken
abbrev pub BothTakenLaw : Type 0
BothTakenLaw =
    (old mid new : Option (List ℕ)) (first second : List ℕ) → mid ≡ with_bytes old first → new ≡ with_bytes mid second → new ≡ with_bytes old (first ++ second)

-- a part of the first of two texts, and one of the second behind all of the first, are parts of both
abbrev pub FirstPartLaw : Type 0
FirstPartLaw = (old new : Option (List ℕ)) (first second : List ℕ) → TookPart old new first → TookPart old new (first ++ second)

abbrev pub SecondPartLaw : Type 0
SecondPartLaw =
    (old mid new : Option (List ℕ)) (first second : List ℕ) → mid ≡ with_bytes old first → TookPart mid new second → TookPart old new (first ++ second)
