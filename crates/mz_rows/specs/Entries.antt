-- What the report tells of each row.
use Rattle.std.specs.Prelude.{List, [], ◌∷◌, Some, None}
use Rattle.mz_base.specs.declared.name.Name.{Name}
use Rattle.mz_core.specs.declared.verdict.Entry.{Entry}
use Rattle.mz_core.specs.declared.verdict.Verdict.TheVariants as verdict
use Rattle.mz_corpus.specs.Article.{Article}
use Rattle.mz_turns.specs.Row.{Row, Waiting, Claimed, Accepted, Rejected, Blocked, Cyclic, Missing}
use Rattle.mz_turns.specs.Dependencies.{start_row}
use Rattle.mz_rows.specs.Counts.{no_counts, counts_of}

-- an article with its verdict, the counts of an accepted one and the faults of a rejected one
abbrev pub entry_of : Name → Row → Entry
entry_of n Waiting = record { name = n; verdict = None; counts = no_counts; faults = [] }
entry_of n (Claimed w) = record { name = n; verdict = None; counts = no_counts; faults = [] }
entry_of n (Accepted e) = record { name = n; verdict = Some verdict.Accepted; counts = counts_of e.items; faults = [] }
entry_of n (Rejected fs) = record { name = n; verdict = Some verdict.Rejected; counts = no_counts; faults = fs }
entry_of n (Blocked m) = record { name = n; verdict = Some (verdict.Blocked m); counts = no_counts; faults = [] }
entry_of n Cyclic = record { name = n; verdict = Some verdict.Cyclic; counts = no_counts; faults = [] }
entry_of n Missing = record { name = n; verdict = Some verdict.Missing; counts = no_counts; faults = [] }

-- one entry for each row, in the order of the rows
abbrev pub entries_of : List Article → List Row → List Entry
entries_of [] rows = []
entries_of (a ∷ c) [] = []
entries_of (a ∷ c) (x ∷ rows) = entry_of a.name x ∷ entries_of c rows

-- what is told of an article before any is checked
abbrev pub start_entry : Article → Entry
start_entry a = entry_of a.name (start_row a)
