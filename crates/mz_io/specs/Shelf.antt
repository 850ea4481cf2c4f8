-- What a shelf answers.
use Rattle.std.specs.Prelude.{◌<◌, ◌≡◌, ℕ, ◌≤◌, nat_le, if◌then◌else◌, List, length, Option, Some, None, Result, Ok, Err}
use Rattle.mz_base.specs.declared.name.Name.{Name}
use Rattle.mz_io.specs.declared.file_kind.FileKind.{FileKind}
use Rattle.mz_io.specs.declared.file.File.{File}
use Rattle.mz_io.specs.declared.fetch_fault.FetchFault.{FetchFault}
use Rattle.mz_io.specs.declared.fetch_fault.FetchFault.TheVariants.{Failed, TooLong, Memory}
use Rattle.mz_io.specs.Count.{counted}
use Rattle.mz_io.specs.File.{lookup}

-- the most bytes of a text
abbrev pub text_limit : ℕ
text_limit = 1048576

-- a text or no text, or why there is no answer
abbrev pub Answer : Type 0
Answer = Result (Option (List ℕ)) FetchFault

-- the amount after an answer: a text counts with its bytes, a text that is too long with one byte more than the limit
abbrev pub amount_after : ℕ → Answer → ℕ
amount_after old (Ok (Some text)) = counted old (length text)
amount_after old (Ok None) = old
amount_after old (Err Failed) = old
amount_after old (Err TooLong) = counted old 1048577
amount_after old (Err Memory) = old

-- a text that is given is within the limit
abbrev pub IsShort : Answer → Type 0
IsShort (Ok (Some text)) = length text ≤ text_limit
IsShort (Ok None) = Unit {0}
IsShort (Err fault) = Unit {0}

-- what the bytes of a pair, or their absence, call for
abbrev pub answer_of : Option (List ℕ) → Answer
answer_of None = Ok None
answer_of (Some bytes) = if nat_le (length bytes) text_limit then Ok (Some bytes) else Err TooLong

-- where the contents are told, the answer is the one that they call for
abbrev pub AgreesWith : Option (List File) → FileKind → Name → Answer → Type 0
AgreesWith None kind name answer = Unit {0}
AgreesWith (Some files) kind name answer = answer ≡ answer_of (lookup files kind name)

-- the same, but for a call that failed or met want of memory
abbrev pub IsExact : Option (List File) → FileKind → Name → Answer → Type 0
IsExact told kind name (Ok text) = AgreesWith told kind name (Ok text)
IsExact told kind name (Err TooLong) = AgreesWith told kind name (Err TooLong)
IsExact told kind name (Err Failed) = Unit {0}
IsExact told kind name (Err Memory) = Unit {0}

-- the fact, where the answer is `Failed`
abbrev pub OnFailed : Answer → Type 0 → Type 0
OnFailed (Ok text) P = Unit {0}
OnFailed (Err Failed) P = P
OnFailed (Err TooLong) P = Unit {0}
OnFailed (Err Memory) P = Unit {0}

-- where the bytes are known, a text that was read is all of them, and one that is too long has more than the limit
abbrev pub IsRead : Option (List ℕ) → Result (List ℕ) FetchFault → Type 0
IsRead None result = Unit {0}
IsRead (Some bytes) (Ok text) = text ≡ bytes
IsRead (Some bytes) (Err Failed) = Unit {0}
IsRead (Some bytes) (Err TooLong) = text_limit < length bytes
IsRead (Some bytes) (Err Memory) = Unit {0}
