-- What the calls of a desk do.
use Rattle.std.specs.Prelude.{◌≡◌, ◌<◌, ◌≤◌, ℕ, true, false, List, [], ◌∷◌, ◌++◌, length, map, Some, None, slice_get, slice_set, Contains}
use Rattle.mz_corpus.specs.Article.{Article}
use Rattle.mz_corpus.specs.Corpus.{names_of}
use Rattle.mz_turns.specs.Row.{Row, Claimed, is_settled, is_claimed, freed, row_of, row_at}
use Rattle.mz_turns.specs.Dependencies.{place_of}
use Rattle.mz_turns.specs.Library.{environment}
use Rattle.mz_turns.specs.Machine.{Blocks}
use Rattle.mz_turns.specs.declared.turn.Turn.TheVariants.{Take, Publish, Reclaim}
use Rattle.mz_rows.specs.Standing.{state_of}
use Rattle.mz_rows.specs.Table.{is_ready, number_at}
use Rattle.mz_rows.specs.declared.standing.RowState.TheVariants as state
use Rattle.mz_desk.specs.Job.{Job, Done}
use Rattle.mz_desk.specs.Difference.{text_named, export_named, IsFirstDifference}
use Rattle.mz_desk.specs.State.{State}
use Rattle.mz_desk.specs.declared.job.Why.{Why}
use Rattle.mz_desk.specs.declared.job.Why.TheVariants.{NotClaimed, Text, Vocabulary, Export as OfExport}
use Rattle.mz_desk.specs.declared.claim.Claim.{Claim}
use Rattle.mz_desk.specs.declared.claim.Claim.TheVariants as claim

-- the article of the row has a text
abbrev pub HasText : List Article → ℕ → Type 0
HasText c r = (a : Article) → slice_get c r ≡ Some a → a.text ≡ None → ⊥

-- the job's input is the article's own
pub record IsInputOf (rows : List Row) (a : Article) (j : Job) : Type 0 where
  pub text : a.text ≡ Some j.text
  pub vocabularies : a.vocabularies ≡ j.vocabularies
  pub exports : environment rows a ≡ j.exports

-- the job of the row: all that its check reads, as the desk has it
pub record IsJobOf (c : List Article) (rows : List Row) (r w : ℕ) (j : Job) : Type 0 where
  pub row : j.row ≡ r
  pub worker : j.worker ≡ w
  pub article : Article
  pub is_at : slice_get c r ≡ Some article
  pub named : article.name ≡ j.name
  pub input : IsInputOf rows article j

-- a worker takes the first ready row, in the order of names
pub record Takes (old : State) (w : ℕ) (new : State) (j : Job) : Type 0 where
  pub ready : is_ready old.corpus.articles old.rows j.row ≡ true
  pub first : (k : ℕ) → k < length old.corpus.articles → is_ready old.corpus.articles old.rows k ≡ true → number_at old.corpus.articles j.row ≤ number_at old.corpus.articles k
  pub job : IsJobOf old.corpus.articles old.rows j.row w j
  pub corpus : new.corpus ≡ old.corpus
  pub rows : new.rows ≡ slice_set old.rows j.row (Claimed w)
  pub turns : new.turns ≡ old.turns ++ Take j.row w ∷ []

abbrev pub NoneIsReady : State → Type 0
NoneIsReady s = (k : ℕ) → k < length s.corpus.articles → is_ready s.corpus.articles s.rows k ≡ false

abbrev pub AllAreSettled : State → Type 0
AllAreSettled s = (k : ℕ) → k < length s.corpus.articles → is_settled (row_at s.rows k) ≡ true

-- the first row that isn't settled
abbrev pub IsFirstUnsettled : State → ℕ → Type 0
IsFirstUnsettled s r =
    (r < length s.corpus.articles) × (is_settled (row_at s.rows r) ≡ false) × ((k : ℕ) → k < r → is_settled (row_at s.rows k) ≡ true)

-- what a claim answers: a job; that no row is ready, with the first claimed row; or that all rows are settled
abbrev pub Answers : State → ℕ → State → Claim → Type 0
Answers old w new (claim.Take j) = Takes old w new j
Answers old w new (claim.NotYet k) =
    (new ≡ old) × NoneIsReady old × (is_claimed (row_at old.rows k) ≡ true) × ((q : ℕ) → q < k → is_claimed (row_at old.rows q) ≡ false)
Answers old w new claim.Finished = (new ≡ old) × AllAreSettled old

-- the row of the job's name is claimed by the job's worker
pub record IsClaimedFor (c : List Article) (rows : List Row) (j : Job) : Type 0 where
  pub article : Article
  pub is_at : slice_get c (place_of c j.name) ≡ Some article
  pub named : article.name ≡ j.name
  pub claimed : row_at rows (place_of c j.name) ≡ Claimed j.worker

-- the first part of it that isn't
abbrev pub DiffersIn : List Row → Article → Job → Why → Type 0
DiffersIn rows a j (NotClaimed s) = ⊥
DiffersIn rows a j Text = a.text ≡ Some j.text → ⊥
DiffersIn rows a j (Vocabulary n) =
    (a.text ≡ Some j.text) × IsFirstDifference (text_named a.vocabularies) (text_named j.vocabularies) n.number
DiffersIn rows a j (OfExport n) =
    (a.text ≡ Some j.text) × (a.vocabularies ≡ j.vocabularies) × IsFirstDifference (export_named (environment rows a)) (export_named j.exports) n.number

-- a result stands: its row is claimed by its worker, and its input is the desk's own
pub record Stands (c : List Article) (rows : List Row) (j : Job) : Type 0 where
  pub claim : IsClaimedFor c rows j
  pub input : IsInputOf rows claim.article j

-- its input isn't
abbrev pub IsStale : List Article → List Row → Job → Why → Type 0
IsStale c rows j why = (k : IsClaimedFor c rows j) × DiffersIn rows k.article j why

-- why it doesn't stand: the first of these in this order
abbrev pub Strays : List Article → List Row → Job → Why → Type 0
Strays c rows j (NotClaimed None) = Contains (names_of c) j.name → ⊥
Strays c rows j (NotClaimed (Some s)) =
    Contains (names_of c) j.name × (state_of (row_at rows (place_of c j.name)) ≡ s) × (s ≡ state.Claimed j.worker → ⊥)
Strays c rows j Text = IsStale c rows j Text
Strays c rows j (Vocabulary n) = IsStale c rows j (Vocabulary n)
Strays c rows j (OfExport n) = IsStale c rows j (OfExport n)

-- a result is published: its row is settled with it, and then blocked rows are
pub record Publishes (old new : State) (d : Done) : Type 0 where
  pub stands : Stands old.corpus.articles old.rows d.job
  pub corpus : new.corpus ≡ old.corpus
  pub rows : Blocks old.corpus.articles (slice_set old.rows (place_of old.corpus.articles d.job.name) (row_of d.outcome)) new.rows
  pub turns : new.turns ≡ old.turns ++ Publish (place_of old.corpus.articles d.job.name) d.job.worker ∷ []

-- claims are taken away, where there is one
pub record Reclaims (old new : State) : Type 0 where
  pub corpus : new.corpus ≡ old.corpus
  pub some : (k : ℕ) → k < length old.corpus.articles → is_claimed (row_at old.rows k) ≡ true → (new.rows ≡ map freed old.rows) × (new.turns ≡ old.turns ++ Reclaim ∷ [])
  pub none : ((k : ℕ) → k < length old.corpus.articles → is_claimed (row_at old.rows k) ≡ false) → new ≡ old
