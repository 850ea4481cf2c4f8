-- How the texts of a corpus are gathered.
use Rattle.std.specs.Prelude.{◌≡◌, ◌⊎◌, Bool, ◌<◌, ◌≤◌, ℕ, ◌+◌, ◌==◌, nat_le, if◌then◌else◌, List, [], ◌∷◌, ◌++◌, map, length, fold, Option, Some, None, Result, Ok, Err, slice_get}
use Rattle.std.specs.List.{list_any}
use Rattle.mz_base.specs.declared.name.Name.{Name}
use Rattle.mz_base.specs.declared.head.Directive.{Directive}
use Rattle.mz_base.specs.NamedText.{NamedText}
use Rattle.mz_io.specs.declared.file.File.{File}
use Rattle.mz_io.specs.declared.file_kind.FileKind.TheVariants.{Article, Vocabulary}
use Rattle.mz_io.specs.File.{lookup}
use Rattle.mz_io.specs.Shelf.{text_limit}
use Rattle.mz_lex.specs.declared.head_fault.HeadFault.{HeadFault}
use Rattle.mz_lex.specs.declared.head_fault.HeadFault.TheVariants as head
use Rattle.mz_lex.specs.Head.{IsHeadOf, IsHeadRefused}
use Rattle.mz_corpus.specs.declared.gather_fault.GatherFault.{GatherFault}
use Rattle.mz_corpus.specs.declared.gather_fault.GatherFault.TheVariants.{Read, TooMuchText, TooManyArticles, TooLong, TooManyVocabularies, Memory}
use Rattle.mz_corpus.specs.Article.{source_of}
use Rattle.mz_corpus.specs.Corpus.{Corpus}
use Rattle.mz_corpus.specs.Directives.{dependencies_of, vocabulary_names_of}
use Rattle.mz_corpus.specs.Names.{with_fetched_name}
use Rattle.mz_corpus.specs.Source.{Source}

-- the most bytes of all texts
abbrev pub texts_limit : ℕ
texts_limit = 16777216

-- the most articles, and the most vocabularies
abbrev pub count_limit : ℕ
count_limit = 512

-- what is gathered so far: the queue of article names, what was fetched for those at its front, the vocabularies that
-- were fetched, in order, and the sum of bytes of all texts
pub record Gathered : Type 0 where
  pub queue : List Name
  pub sources : List Source
  pub vocabularies : List NamedText
  pub bytes : ℕ

abbrev pub GatherResult : Type 0
GatherResult = Result Gathered GatherFault

-- what follows after what is gathered, unless a limit was passed
abbrev pub unless_passed : GatherResult → (Gathered → GatherResult) → GatherResult
unless_passed (Ok g) next = next g
unless_passed (Err fault) next = Err fault

-- the sum of bytes after a text of this name was fetched, or its absence, or the limit that is passed
abbrev pub bytes_after : Name → ℕ → Option (List ℕ) → Result ℕ GatherFault
bytes_after name bytes None = Ok bytes
bytes_after name bytes (Some text) =
    if nat_le (length text) text_limit
    then (if nat_le (bytes + length text) texts_limit then Ok (bytes + length text) else Err (TooMuchText (bytes + length text)))
    else Err (TooLong name)

abbrev pub with_vocabulary_text : Gathered → Name → Option (List ℕ) → Result ℕ GatherFault → GatherResult
with_vocabulary_text g n text (Ok bytes) = Ok (record g { vocabularies = g.vocabularies ++ record { name = n; text = text } ∷ []; bytes = bytes })
with_vocabulary_text g n text (Err fault) = Err fault

-- whether the vocabulary of the name was fetched
abbrev pub is_fetched : List NamedText → Name → Bool
is_fetched vs n = list_any (λ v. n.number == v.name.number) vs

-- a vocabulary that wasn't fetched yet is fetched, where fewer than 512 were
abbrev pub with_vocabulary : List File → Gathered → Name → GatherResult
with_vocabulary files g n =
    if is_fetched g.vocabularies n then Ok g
    else (if nat_le count_limit (length g.vocabularies) then Err TooManyVocabularies
    else with_vocabulary_text g n (lookup files Vocabulary n) (bytes_after n g.bytes (lookup files Vocabulary n)))

-- the same for these vocabularies, in turn
abbrev pub with_vocabularies : List File → Gathered → List Name → GatherResult
with_vocabularies files g [] = Ok g
with_vocabularies files g (n ∷ ns) = unless_passed (with_vocabulary files g n) (λ h. with_vocabularies files h ns)

-- the queue with these names in turn, but for built-in names and those that are in it
abbrev pub queued : List Name → List Name → List Name
queued queue ns = fold with_fetched_name queue ns

-- the names of direct dependencies are queued, where at most 512 articles are queued then
abbrev pub with_source : Gathered → Source → GatherResult
with_source g s =
    if nat_le (length (queued g.queue s.dependencies)) count_limit
    then Ok (record g { queue = queued g.queue s.dependencies; sources = g.sources ++ s ∷ [] })
    else Err TooManyArticles

-- the text has no environment part
abbrev pub IsUnreadable : List ℕ → HeadFault → Type 0
IsUnreadable bytes (head.BadByte p) = IsHeadRefused bytes (head.BadByte p)
IsUnreadable bytes (head.TooManyTokens p) = IsHeadRefused bytes (head.TooManyTokens p)
IsUnreadable bytes (head.Pragma p) = IsHeadRefused bytes (head.Pragma p)
IsUnreadable bytes (head.Unexpected p) = IsHeadRefused bytes (head.Unexpected p)
IsUnreadable bytes (head.EndsEarly p) = IsHeadRefused bytes (head.EndsEarly p)
IsUnreadable bytes (head.Profile2 p) = IsHeadRefused bytes (head.Profile2 p)
IsUnreadable bytes (head.Memory a) = ⊥

-- the directives of a text's environment part; none where it can't be read, or where there is no text
abbrev pub HasDirectives : Option (List ℕ) → List Directive → Type 0
HasDirectives None ds = ds ≡ []
HasDirectives (Some bytes) ds = IsHeadOf bytes ds ⊎ ((fault : HeadFault) × IsUnreadable bytes fault × (ds ≡ []))

-- an article with these directives: its vocabularies are fetched, and its direct dependencies are queued
abbrev pub with_directives : List File → Gathered → Name → Option (List ℕ) → List Directive → GatherResult
with_directives files g n text ds =
    unless_passed (with_vocabularies files g (vocabulary_names_of ds)) (λ h. with_source h (record { name = n; text = text; dependencies = dependencies_of ds; vocabulary_names = vocabulary_names_of ds }))

abbrev pub TakesText : List File → Gathered → Name → Option (List ℕ) → Result ℕ GatherFault → GatherResult → Type 0
TakesText files g n text (Ok bytes) r = (ds : List Directive) × HasDirectives text ds × (r ≡ with_directives files (record g { bytes = bytes }) n text ds)
TakesText files g n text (Err fault) r = r ≡ Err fault

-- what is gathered after the front name, or the limit that is passed
abbrev pub TakesArticle : List File → Gathered → Name → GatherResult → Type 0
TakesArticle files g n r = TakesText files g n (lookup files Article n) (bytes_after n g.bytes (lookup files Article n)) r

-- the first name of the queue whose text wasn't fetched yet
abbrev pub next_name : Gathered → Option Name
next_name g = slice_get g.queue (length g.sources)

-- one name after another is taken, until the queue has no more, or a limit is passed
pub data Goes (files : List File) : Gathered → GatherResult → Type 0 where
  whole : (g : Gathered) → next_name g ≡ None → Goes files g (Ok g)
  passed : (g : Gathered) (n : Name) (fault : GatherFault) → next_name g ≡ Some n → TakesArticle files g n (Err fault) → Goes files g (Err fault)
  goes_on : (g h : Gathered) (n : Name) (r : GatherResult) → next_name g ≡ Some n → TakesArticle files g n (Ok h) → Goes files h r → Goes files g r

-- the queue at the start, with nothing fetched
abbrev pub begun : List Name → Gathered
begun names = record { queue = queued [] names; sources = []; vocabularies = []; bytes = 0 }

-- the gathering of these names from these files: what is gathered, or the first limit that is passed
pub record Gathers (files : List File) (names : List Name) (r : GatherResult) : Type 0 where
  pub few : length (queued [] names) ≤ count_limit → Goes files (begun names) r
  pub many : count_limit < length (queued [] names) → r ≡ Err TooManyArticles

-- the corpus has what was gathered
pub record IsCorpusOf (g : Gathered) (c : Corpus) : Type 0 where
  pub sources : map source_of c.articles ≡ g.sources
  pub vocabularies : c.vocabularies ≡ g.vocabularies

-- a claim on the limit that is passed, or one on the answer; a failed fetch and want of memory say nothing
abbrev pub OnAnswer : {X : Type 0} → (GatherResult → Type 0) → (X → Type 0) → Result X GatherFault → Type 0
OnAnswer P Q (Ok x) = Q x
OnAnswer P Q (Err Read) = Unit {0}
OnAnswer P Q (Err Memory) = Unit {0}
OnAnswer P Q (Err (TooMuchText bytes)) = P (Err (TooMuchText bytes))
OnAnswer P Q (Err TooManyArticles) = P (Err TooManyArticles)
OnAnswer P Q (Err (TooLong name)) = P (Err (TooLong name))
OnAnswer P Q (Err TooManyVocabularies) = P (Err TooManyVocabularies)

-- the answer is what the gathering gives, but for a failed fetch and want of memory
abbrev pub IsGatherAnswer : List File → List Name → Result Corpus GatherFault → Type 0
IsGatherAnswer files names r = OnAnswer (Gathers files names) (λ c. (g : Gathered) × Gathers files names (Ok g) × IsCorpusOf g c) r

-- a claim on what is gathered after a call, or on the limit that it passes; a failed fetch and want of memory say nothing
abbrev pub Tells : (GatherResult → Type 0) → Result (Unit {0}) GatherFault → Gathered → Type 0
Tells P r g = OnAnswer P (λ u. P (Ok g)) r

-- the queue of these names with nothing fetched, where there are at most 512
abbrev pub IsBegun : List Name → Result Gathered GatherFault → Type 0
IsBegun names (Ok g) = (g ≡ begun names) × (length (queued [] names) ≤ count_limit)
IsBegun names (Err Read) = ⊥
IsBegun names (Err Memory) = Unit {0}
IsBegun names (Err (TooMuchText bytes)) = ⊥
IsBegun names (Err TooManyArticles) = count_limit < length (queued [] names)
IsBegun names (Err (TooLong name)) = ⊥
IsBegun names (Err TooManyVocabularies) = ⊥

-- the text that is fetched and the sum of bytes with it, or the limit that is passed
abbrev pub IsFetched : Option (List ℕ) → Name → ℕ → Result (Option (List ℕ) × ℕ) GatherFault → Type 0
IsFetched text n bytes (Ok r) = (r.0 ≡ text) × (bytes_after n bytes text ≡ Ok r.1)
IsFetched text n bytes (Err Read) = Unit {0}
IsFetched text n bytes (Err Memory) = Unit {0}
IsFetched text n bytes (Err (TooMuchText sum)) = bytes_after n bytes text ≡ Err (TooMuchText sum)
IsFetched text n bytes (Err TooManyArticles) = ⊥
IsFetched text n bytes (Err (TooLong name)) = bytes_after n bytes text ≡ Err (TooLong name)
IsFetched text n bytes (Err TooManyVocabularies) = ⊥

-- the fact, where a fetch failed
abbrev pub OnRead : {X : Type 0} → Result X GatherFault → Type 0 → Type 0
OnRead (Ok x) P = Unit {0}
OnRead (Err Read) P = P
OnRead (Err Memory) P = Unit {0}
OnRead (Err (TooMuchText bytes)) P = Unit {0}
OnRead (Err TooManyArticles) P = Unit {0}
OnRead (Err (TooLong name)) P = Unit {0}
OnRead (Err TooManyVocabularies) P = Unit {0}
