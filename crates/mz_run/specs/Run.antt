-- What a run writes, and how it ends.
use Rattle.std.specs.Prelude.{◌≡◌, ℕ, Bool, true, false, List, Option, Some, None}
use Rattle.mz_axioms.specs.Checker.{OutcomeRelation}
use Rattle.mz_base.specs.declared.status.Status.{Status}
use Rattle.mz_base.specs.declared.status.Status.TheVariants as status
use Rattle.mz_io.specs.declared.file.File.{File}
use Rattle.mz_io.specs.Sink.{with_bytes, TookPart}
use Rattle.mz_words.specs.Words.{Asked}
use Rattle.mz_words.specs.declared.word_fault.WordFault.{WordFault}
use Rattle.mz_words.specs.declared.word_fault.WordFault.TheVariants.{Usage, Memory}
use Rattle.mz_corpus.specs.declared.gather_fault.GatherFault.{GatherFault}
use Rattle.mz_corpus.specs.declared.gather_fault.GatherFault.TheVariants as gather
use Rattle.mz_run.specs.Checked.{Checked, IsCheckedFor, entries_in, are_accepted, text_of}

-- what was taken of a text by a run that ends so: all of it after `Accepted`, where every article is accepted, and after
-- `Rejected`, where one isn't; a part from its front, and not all, after a write fault; nothing after any other status
abbrev pub Took : List ℕ → Bool → Option (List ℕ) → Option (List ℕ) → Status → Type 0
Took text accepted old new status.Accepted = (accepted ≡ true) × (new ≡ with_bytes old text)
Took text accepted old new status.Rejected = (accepted ≡ false) × (new ≡ with_bytes old text)
Took text accepted old new status.WriteFault = TookPart old new text
Took text accepted old new status.Usage = new ≡ old
Took text accepted old new status.ReadFault = new ≡ old
Took text accepted old new status.OutOfMemory = new ≡ old
Took text accepted old new status.TooLarge = new ≡ old

-- the same of the text on the articles that were checked for an order
abbrev pub TookFor : OutcomeRelation → Option (List File) → Asked → Option (List ℕ) → Option (List ℕ) → Status → Type 0
TookFor is_outcome told a old new s =
    (x : Checked) × IsCheckedFor is_outcome told a x × Took (text_of a x) (are_accepted (entries_in x)) old new s

-- what was taken at the end of a run: after `Accepted`, `Rejected` and `WriteFault` of the text on the articles of its order,
-- else nothing
abbrev pub WrittenFor : OutcomeRelation → Option (List File) → Asked → Option (List ℕ) → Option (List ℕ) → Status → Type 0
WrittenFor is_outcome told a old new status.Accepted = TookFor is_outcome told a old new status.Accepted
WrittenFor is_outcome told a old new status.Rejected = TookFor is_outcome told a old new status.Rejected
WrittenFor is_outcome told a old new status.WriteFault = TookFor is_outcome told a old new status.WriteFault
WrittenFor is_outcome told a old new status.Usage = new ≡ old
WrittenFor is_outcome told a old new status.ReadFault = new ≡ old
WrittenFor is_outcome told a old new status.OutOfMemory = new ≡ old
WrittenFor is_outcome told a old new status.TooLarge = new ≡ old

-- by words that are an order, or that are none
abbrev pub Written : OutcomeRelation → Option (List File) → Option Asked → Option (List ℕ) → Option (List ℕ) → Status → Type 0
Written is_outcome told None old new s = new ≡ old
Written is_outcome told (Some a) old new s = WrittenFor is_outcome told a old new s

-- how a run ends whose texts can't be gathered
abbrev pub refusal_of : GatherFault → Status
refusal_of gather.Read = status.ReadFault
refusal_of (gather.TooMuchText bytes) = status.TooLarge
refusal_of gather.TooManyArticles = status.TooLarge
refusal_of (gather.TooLong name) = status.TooLarge
refusal_of gather.TooManyVocabularies = status.TooLarge
refusal_of gather.Memory = status.OutOfMemory

-- how a run ends whose words give no order
abbrev pub refusal_of_words : WordFault → Status
refusal_of_words Usage = status.Usage
refusal_of_words (Memory a) = status.OutOfMemory

-- an answer to words that are no order: that, unless memory ran out
abbrev pub IsRefusalOfWords : Status → Type 0
IsRefusalOfWords status.Accepted = ⊥
IsRefusalOfWords status.Rejected = ⊥
IsRefusalOfWords status.Usage = Unit {0}
IsRefusalOfWords status.ReadFault = ⊥
IsRefusalOfWords status.WriteFault = ⊥
IsRefusalOfWords status.OutOfMemory = Unit {0}
IsRefusalOfWords status.TooLarge = ⊥

-- an answer to an order whose texts pass a limit: that they are too large, unless a fetch failed or memory ran out
abbrev pub IsRefusalOfLimit : Status → Type 0
IsRefusalOfLimit status.Accepted = ⊥
IsRefusalOfLimit status.Rejected = ⊥
IsRefusalOfLimit status.Usage = ⊥
IsRefusalOfLimit status.ReadFault = Unit {0}
IsRefusalOfLimit status.WriteFault = ⊥
IsRefusalOfLimit status.OutOfMemory = Unit {0}
IsRefusalOfLimit status.TooLarge = Unit {0}

-- an answer that a run with nothing amiss may give
abbrev pub IsCompletion : Status → Type 0
IsCompletion status.Accepted = Unit {0}
IsCompletion status.Rejected = Unit {0}
IsCompletion status.Usage = ⊥
IsCompletion status.ReadFault = ⊥
IsCompletion status.WriteFault = ⊥
IsCompletion status.OutOfMemory = Unit {0}
IsCompletion status.TooLarge = ⊥
