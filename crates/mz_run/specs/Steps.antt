-- How a run ends after some of its steps.
use Rattle.std.specs.Prelude.{◌≡◌, ℕ, Bool, List, Option}
use Rattle.mz_axioms.specs.Checker.{OutcomeRelation}
use Rattle.mz_base.specs.declared.status.Status.{Status}
use Rattle.mz_base.specs.declared.status.Status.TheVariants as status
use Rattle.mz_words.specs.Words.{Asked}
use Rattle.mz_corpus.specs.Corpus.{Corpus}
use Rattle.mz_run.specs.Checked.{Checked, IsChecked, entries_in, are_accepted, text_of}
use Rattle.mz_run.specs.Run.{Took}

-- how a run ends that has a text to write
abbrev pub Ended : List ℕ → Bool → Option (List ℕ) → Option (List ℕ) → Status → Type 0
Ended text accepted old new status.Accepted = Took text accepted old new status.Accepted
Ended text accepted old new status.Rejected = Took text accepted old new status.Rejected
Ended text accepted old new status.WriteFault = Took text accepted old new status.WriteFault
Ended text accepted old new status.Usage = ⊥
Ended text accepted old new status.ReadFault = ⊥
Ended text accepted old new status.OutOfMemory = ⊥
Ended text accepted old new status.TooLarge = ⊥

-- the text on the articles of a corpus
abbrev pub TookOn : OutcomeRelation → Asked → Corpus → Option (List ℕ) → Option (List ℕ) → Status → Type 0
TookOn is_outcome a c old new s =
    (x : Checked) × (x.corpus ≡ c) × IsChecked is_outcome x × Took (text_of a x) (are_accepted (entries_in x)) old new s

-- how a run ends that has gathered a corpus
abbrev pub EndedOn : OutcomeRelation → Asked → Corpus → Option (List ℕ) → Option (List ℕ) → Status → Type 0
EndedOn is_outcome a c old new status.Accepted = TookOn is_outcome a c old new status.Accepted
EndedOn is_outcome a c old new status.Rejected = TookOn is_outcome a c old new status.Rejected
EndedOn is_outcome a c old new status.WriteFault = TookOn is_outcome a c old new status.WriteFault
EndedOn is_outcome a c old new status.Usage = ⊥
EndedOn is_outcome a c old new status.ReadFault = ⊥
EndedOn is_outcome a c old new status.OutOfMemory = new ≡ old
EndedOn is_outcome a c old new status.TooLarge = ⊥
