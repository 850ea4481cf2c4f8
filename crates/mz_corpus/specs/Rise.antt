-- How far a gathering raises the amount of a shelf, and why it passes a limit.
use Rattle.std.specs.Prelude.{◌≡◌, ◌<◌, ◌≤◌, ◌⊎◌, ℕ, ◌+◌, List, length, Option, Some, None, Result, Ok, Err}
use Rattle.mz_io.specs.Count.{last_count}
use Rattle.mz_corpus.specs.declared.gather_fault.GatherFault.{GatherFault}
use Rattle.mz_corpus.specs.declared.gather_fault.GatherFault.TheVariants.{Read, TooMuchText, TooManyArticles, TooLong, TooManyVocabularies, Memory}
use Rattle.mz_corpus.specs.Gather.{Gathered, texts_limit}

-- the amount rose by at least so much, or stands at its last value
abbrev pub HasRisen : ℕ → ℕ → ℕ → Type 0
HasRisen old new n = (old + n ≤ new) ⊎ (new ≡ last_count)

-- the names that were handed in and the rise of the amount are together more than 512, or the amount stands at its last
-- value
abbrev pub IsLarge : ℕ → ℕ → ℕ → Type 0
IsLarge names old new = (512 + old < names + new) ⊎ (new ≡ last_count)

-- the fact, where a limit was passed
abbrev pub OnLimit : {X : Type 0} → Result X GatherFault → Type 0 → Type 0
OnLimit (Ok x) P = Unit {0}
OnLimit (Err Read) P = Unit {0}
OnLimit (Err Memory) P = Unit {0}
OnLimit (Err (TooMuchText bytes)) P = P
OnLimit (Err TooManyArticles) P = P
OnLimit (Err (TooLong name)) P = P
OnLimit (Err TooManyVocabularies) P = P

-- the fact, where a text was too long
abbrev pub OnTooLong : {X : Type 0} → Result X GatherFault → Type 0 → Type 0
OnTooLong (Ok x) P = Unit {0}
OnTooLong (Err Read) P = Unit {0}
OnTooLong (Err Memory) P = Unit {0}
OnTooLong (Err (TooMuchText bytes)) P = Unit {0}
OnTooLong (Err TooManyArticles) P = Unit {0}
OnTooLong (Err (TooLong name)) P = P
OnTooLong (Err TooManyVocabularies) P = Unit {0}

-- the amount doesn't fall, stands at its last value once it is there, and rises by more than a text may have where one was
-- too long
pub record Raises {X : Type 0} (old new : ℕ) (result : Result X GatherFault) : Type 0 where
  pub rises : old ≤ new
  pub stands : old ≡ last_count → new ≡ last_count
  pub too_long : OnTooLong result (HasRisen old new 1048577)

-- how many bytes a text has
abbrev pub text_length : Option (List ℕ) → ℕ
text_length None = 0
text_length (Some text) = length text

-- a text that is fetched, or its absence, raises the sum of bytes and the amount; one that passes a limit raises the amount
abbrev pub IsCharged : ℕ → ℕ → ℕ → Result (Option (List ℕ) × ℕ) GatherFault → Type 0
IsCharged old new bytes (Ok r) = (r.1 ≡ bytes + text_length r.0) × HasRisen old new (text_length r.0)
IsCharged old new bytes (Err Read) = Unit {0}
IsCharged old new bytes (Err Memory) = Unit {0}
IsCharged old new bytes (Err (TooMuchText sum)) = (n : ℕ) × HasRisen old new n × (texts_limit < bytes + n)
IsCharged old new bytes (Err TooManyArticles) = ⊥
IsCharged old new bytes (Err (TooLong name)) = HasRisen old new 1048577
IsCharged old new bytes (Err TooManyVocabularies) = ⊥

-- articles and vocabularies, and so many more, are no more than the names that were handed in and the bytes that were
-- given, and the sum of bytes is no more than these
pub record IsCovered (names start now spare : ℕ) (g : Gathered) : Type 0 where
  pub named : length g.queue + length g.vocabularies + spare + start ≤ names + now
  pub given : g.bytes + start ≤ now

-- the same, unless the amount stands at its last value
abbrev pub IsPaid : ℕ → ℕ → ℕ → ℕ → Gathered → Type 0
IsPaid names start now spare g = IsCovered names start now spare g ⊎ (now ≡ last_count)

-- what is gathered is paid for, or the limit that was passed is due to what was asked for
abbrev pub Pays : ℕ → ℕ → ℕ → ℕ → Gathered → Result (Unit {0}) GatherFault → Type 0
Pays names start now spare g (Ok u) = IsPaid names start now spare g
Pays names start now spare g (Err fault) = OnLimit {X = Unit {0}} (Err fault) (IsLarge names start now)
