-- What a desk tells of an article.
use Rattle.std.specs.Prelude.{◌≡◌, ℕ, true, false, List, Some, slice_get, Contains}
use Rattle.std.specs.Arc.{arc_value}
use Rattle.mz_base.specs.Name.{is_built_in}
use Rattle.mz_base.specs.declared.name.Name.{Name}
use Rattle.mz_core.specs.declared.fault.Fault.{Fault}
use Rattle.mz_core.specs.declared.outcome.Export.{Export}
use Rattle.mz_corpus.specs.Article.{Article}
use Rattle.mz_corpus.specs.Corpus.{names_of}
use Rattle.mz_turns.specs.Row as row
use Rattle.mz_turns.specs.Row.{Row, is_settled, row_at}
use Rattle.mz_turns.specs.Library.{library_of}
use Rattle.mz_desk.specs.State.{State}
use Rattle.mz_desk.specs.declared.look.Look.{Look}
use Rattle.mz_desk.specs.declared.look.Look.TheVariants.{Accepted, Rejected, Blocked, Cyclic, Missing, NotYet, Unknown}

-- it tells how the row is
abbrev pub Tells : Row → Look → Type 0
Tells x (Accepted e) = x ≡ row.Accepted (arc_value e.now)
Tells x Rejected = (fs : List Fault) × (x ≡ row.Rejected fs)
Tells x (Blocked n) = x ≡ row.Blocked n
Tells x Cyclic = x ≡ row.Cyclic
Tells x Missing = x ≡ row.Missing
Tells x NotYet = is_settled x ≡ false
Tells x Unknown = ⊥

-- it tells an export of the library that has the name
abbrev pub TellsExport : List Export → Name → Look → Type 0
TellsExport library n (Accepted e) = Contains library (arc_value e.now) × ((arc_value e.now).name ≡ n)
TellsExport library n Rejected = ⊥
TellsExport library n (Blocked m) = ⊥
TellsExport library n Cyclic = ⊥
TellsExport library n Missing = ⊥
TellsExport library n NotYet = ⊥
TellsExport library n Unknown = ⊥

abbrev pub IsUnknown : Look → Type 0
IsUnknown (Accepted e) = ⊥
IsUnknown Rejected = ⊥
IsUnknown (Blocked m) = ⊥
IsUnknown Cyclic = ⊥
IsUnknown Missing = ⊥
IsUnknown NotYet = ⊥
IsUnknown Unknown = Unit {0}

-- built-in names are accepted; other names are told as their rows are, and unknown where they have none
pub record IsLook (s : State) (n : Name) (l : Look) : Type 0 where
  pub built_in : is_built_in n.number ≡ true → TellsExport (library_of s.rows) n l
  pub row : is_built_in n.number ≡ false → (r : ℕ) (a : Article) → slice_get s.corpus.articles r ≡ Some a → a.name ≡ n → Tells (row_at s.rows r) l
  pub unknown : is_built_in n.number ≡ false → (Contains (names_of s.corpus.articles) n → ⊥) → IsUnknown l
